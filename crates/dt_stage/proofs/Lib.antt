pub mod Goes
pub mod Values
pub mod OneLevel
pub mod Appends
pub mod GoesByLevels
pub mod Parts
