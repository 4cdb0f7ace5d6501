pub mod Prune
pub mod Ready
pub mod Sound
pub mod PruneExamples
