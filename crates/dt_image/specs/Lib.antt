pub mod Images
pub mod Fault
pub mod Line
pub mod Entry
pub mod Draft
pub mod Read
pub mod Print
pub mod Laws
