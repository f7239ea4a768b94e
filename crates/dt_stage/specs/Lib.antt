pub mod Trees
pub mod Level
pub mod Tells
pub mod Values
pub mod Parts
pub mod Stage
