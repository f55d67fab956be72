pub mod Keywords
pub mod Sentences
pub mod Shown
pub mod Statements
