pub mod Dominating
pub mod Furthest
pub mod Reach
