pub mod UnmovedEntry
pub mod UnmovedExamples
