pub mod Encoding
pub mod ReadWords
pub mod SizeFault
pub mod Telling
pub mod Widths
