pub mod Places
pub mod Counts
pub mod Verdicts
pub mod Joined
pub mod Ends
pub mod Bytes
