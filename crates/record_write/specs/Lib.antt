pub mod Writer
pub mod Ready
pub mod KeepLaws
