pub mod Staying
pub mod Fronting
