mod Marks
mod Numbers
pub mod FirstLine
pub mod Parts
