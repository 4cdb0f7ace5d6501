pub mod Looks
pub mod Ready
pub mod LinkLaws
pub mod LoopLaws
pub mod BlockLaws
pub mod Hung
pub mod Hanging
