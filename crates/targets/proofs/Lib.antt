pub mod Largest
mod Down
mod Turns
pub mod Balance
pub mod Optimal
mod Gaps
pub mod Promises
