pub mod Scanning
pub mod Rounding
