pub mod Steps
mod Narrowing
pub mod Neighbours
pub mod Assignments
pub mod Words
pub mod Roots
pub mod Stillness
pub mod Knowledge
pub mod Trails
pub mod Buckets
pub mod Users
pub mod Watching
pub mod Unknown
mod OwnValues
