pub mod CutRows
pub mod CutRowsLaws
pub mod CutOrder
