pub mod Listed
pub mod BitLemmas
pub mod Sums
pub mod Below
pub mod Operators
