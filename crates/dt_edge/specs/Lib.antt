pub mod Causes
pub mod Told
pub mod Files
pub mod MemoryShelf
pub mod MemorySink
pub mod Counts
pub mod Writers
