pub mod StoreEntryLaws
