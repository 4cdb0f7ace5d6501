pub mod SlicePoints
pub mod NewStart
pub mod Asked
pub mod WalkLaws
pub mod SpanTheorems
pub mod StartTheorems
pub mod AskedTheorems
pub mod StartExamples
