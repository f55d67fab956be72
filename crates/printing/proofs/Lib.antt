mod Threes
mod Reading
mod Cuts
