pub mod Room
mod Rows
mod Line
mod Totals
mod Given
mod Rejecting
mod Serving
pub mod Made
mod Promised
