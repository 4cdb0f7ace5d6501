pub mod Plane
pub mod AroundLaws
pub mod PlaneTheorems
pub mod Words
pub mod Ready
pub mod PartLaws
pub mod SumLaws
pub mod WordsLaws
