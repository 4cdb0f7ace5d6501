pub mod ValidateEntry
pub mod ReopenEntry
pub mod ReopenTheorems
pub mod ReopenExamples
