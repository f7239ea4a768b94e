-- The commands: which of them words ask for, the files that it reads in order, and how it goes.
pub mod Solve
pub mod Check
pub mod Replay
pub mod Walk
pub mod Model
pub mod Make
pub mod Load
pub mod Jobs
