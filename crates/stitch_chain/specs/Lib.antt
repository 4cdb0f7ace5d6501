pub mod Ready
pub mod ChainLaws
