pub mod Vertices
pub mod Held
pub mod RestLaws
