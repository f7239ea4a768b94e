pub mod Entry
pub mod Levels
pub mod Sv39
pub mod Verdicts
pub mod TwoStages
pub mod StageEnds
