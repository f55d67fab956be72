pub mod Deficits
pub mod Plans
pub mod Found
pub mod Kept
pub mod Cascade
