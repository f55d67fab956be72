pub mod Fours
mod Loading
mod Raising
pub mod Sums
pub mod Laws
pub mod Backward
