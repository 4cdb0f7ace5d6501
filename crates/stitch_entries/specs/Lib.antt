pub mod Answers
pub mod StitchEntry
pub mod StitchEntryExamples
pub mod Demand
pub mod TightLaws
pub mod DemandTheorems
