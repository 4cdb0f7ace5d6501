pub mod StitchRows
pub mod StitchTable
pub mod Matching
