pub mod Turning
pub mod Writing
