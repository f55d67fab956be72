pub mod Verdicts
pub mod Pieces
