pub mod Ready
pub mod WriteLaws
pub mod PruneTheorems
