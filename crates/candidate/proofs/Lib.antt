pub mod Seeking
pub mod Telling
