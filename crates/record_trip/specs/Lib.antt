pub mod Kept
pub mod Columns
pub mod Fits
pub mod WriteRead
pub mod ReadWrite
pub mod Both
pub mod OneAnswer
pub mod First
