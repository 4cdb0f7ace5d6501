pub mod Inputs
pub mod Answers
pub mod LookLaws
pub mod ViewVertex
pub mod ViewVertices
pub mod CreateEntry
pub mod SingleEntry
pub mod EntireEntry
