pub mod Lexing
pub mod Steps
