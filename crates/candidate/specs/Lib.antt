pub mod Candidates
pub mod Ready
pub mod Steps
pub mod Told
pub mod SearchLaws
pub mod PieceLaws
pub mod CandidateExamples
pub mod PlaceLaws
