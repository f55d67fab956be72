pub mod Transfers
pub mod Promise
pub mod Pieces
