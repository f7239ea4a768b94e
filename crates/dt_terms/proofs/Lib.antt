pub mod Placed
pub mod Choices
pub mod Additions
pub mod Valued
