pub mod Points
pub mod Outline
pub mod OutlineLaws
pub mod PointExamples
