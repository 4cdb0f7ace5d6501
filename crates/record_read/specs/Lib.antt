pub mod Ready
pub mod ReadTheorems
