pub mod Asked
pub mod Answered
pub mod Sentences
