pub mod Demanded
pub mod Entered
