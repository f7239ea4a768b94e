pub mod Range
pub mod Forward
pub mod Backward
pub mod Ops
pub mod Laws
