pub mod Writes
pub mod Loops
pub mod Gathers
pub mod Alike
pub mod Choosing
pub mod Triples
pub mod Unlisted
pub mod OneBits
