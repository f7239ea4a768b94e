pub mod Kept
pub mod Forests
pub mod Awaiting
pub mod Beginnings
pub mod Printed
pub mod Rows
pub mod RoundTrip
