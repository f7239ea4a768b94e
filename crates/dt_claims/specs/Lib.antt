pub mod Blocks
pub mod Endings
pub mod Marked
pub mod Relations
pub mod Steps
pub mod Tests
pub mod Views
