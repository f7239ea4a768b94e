pub mod Terms
pub mod Problem
pub mod Additions
pub mod Values
