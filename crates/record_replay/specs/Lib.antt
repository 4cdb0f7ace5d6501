pub mod Replayed
pub mod Ready
pub mod ReplayTheorems
