pub mod Ends
pub mod Places
pub mod Pair
pub mod Ops
pub mod Laws
