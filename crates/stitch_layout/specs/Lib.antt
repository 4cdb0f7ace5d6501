pub mod Slices
pub mod Links
pub mod Ready
pub mod LinkingLaws
pub mod PuttingLaws
