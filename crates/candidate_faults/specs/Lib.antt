pub mod CandidateRows
