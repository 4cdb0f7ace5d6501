pub mod Slices
pub mod Ready
pub mod Rows
pub mod RowsLaws
pub mod SlicesTheorems
