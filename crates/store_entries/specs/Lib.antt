pub mod Answers
pub mod StoreRows
pub mod StoreEntry
pub mod StoreTheorems
pub mod PartyTheorems
pub mod Examples
