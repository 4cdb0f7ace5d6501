pub mod Answers
pub mod SettingsEntry
pub mod SettingsEntryLaws
pub mod History
pub mod HistoryTheorems
pub mod SettingsExamples
