pub mod Places
pub mod Words
pub mod Normals
pub mod Within
pub mod Narrowed
