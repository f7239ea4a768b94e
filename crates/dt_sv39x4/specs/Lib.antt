pub mod Names
pub mod Shipped
pub mod Expected
pub mod Law
