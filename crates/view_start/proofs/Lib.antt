pub mod Slices
pub mod NewStarts
