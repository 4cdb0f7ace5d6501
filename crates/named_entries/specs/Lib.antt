pub mod Named
pub mod NamedLaws
pub mod NamedStitch
pub mod NamedArea
pub mod NamedTheorems
pub mod UsedTheorems
