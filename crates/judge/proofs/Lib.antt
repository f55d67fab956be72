mod Adding
mod Reading
mod Sorting
mod Passing
mod Judging
mod Agreeing
