pub mod Cutting
mod Folding
mod Reading
