pub mod View
pub mod Create
pub mod ViewTheorems
pub mod ViewExamples
