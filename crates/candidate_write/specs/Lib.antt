pub mod Lent
pub mod ItemLaws
pub mod CandidateTheorems
pub mod RangeTheorems
