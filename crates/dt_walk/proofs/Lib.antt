pub mod Named
pub mod Walks
pub mod Sound
pub mod Views
pub mod Narrow
pub mod Rules
pub mod Edges
