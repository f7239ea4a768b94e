pub mod Blocks
pub mod Bytes
pub mod Demands
pub mod Views
pub mod Links
pub mod Claims
pub mod Satisfies
