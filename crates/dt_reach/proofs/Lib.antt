pub mod Dominating
pub mod Gone
pub mod Lives
pub mod Furthest
