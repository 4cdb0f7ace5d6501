pub mod Looking
pub mod Comparing
