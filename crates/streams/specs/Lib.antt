pub mod Numbers
pub mod Refusals
pub mod Heat
pub mod Rules
pub mod Checked
pub mod Loaded
