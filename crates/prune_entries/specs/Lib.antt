pub mod Answers
pub mod PruneRows
pub mod PruneEntry
pub mod PruneEntryLaws
