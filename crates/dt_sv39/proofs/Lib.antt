pub mod Joins
pub mod Acceptance
pub mod Machine
pub mod Walks
pub mod Legal
