pub mod Area
pub mod AreaExamples
