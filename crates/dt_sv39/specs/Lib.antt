pub mod Shipped
pub mod Expected
pub mod Law
