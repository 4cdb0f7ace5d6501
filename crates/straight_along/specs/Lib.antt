pub mod Stays
pub mod Ready
