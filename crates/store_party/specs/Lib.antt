pub mod Parties
pub mod Ready
pub mod PartiesLaws
