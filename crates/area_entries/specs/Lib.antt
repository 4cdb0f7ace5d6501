pub mod AreaEntry
