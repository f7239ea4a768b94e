pub mod Marks
pub mod Lengths
pub mod Parts
pub mod Rows
pub mod Steps
pub mod Turns
