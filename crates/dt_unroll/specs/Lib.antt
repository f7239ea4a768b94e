pub mod Building
pub mod Fronts
