pub mod Keying
pub mod Writing
pub mod Following
