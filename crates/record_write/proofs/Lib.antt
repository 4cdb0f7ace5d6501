pub mod Packing
pub mod Keeping
