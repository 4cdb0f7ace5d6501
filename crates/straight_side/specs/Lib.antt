pub mod Side
pub mod Ready
