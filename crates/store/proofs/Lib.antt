pub mod Looking
pub mod Copying
pub mod LookingBytes
