pub mod Candidates
pub mod CandidatesLaws
