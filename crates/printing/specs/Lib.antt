pub mod Printed
pub mod ReadBack
