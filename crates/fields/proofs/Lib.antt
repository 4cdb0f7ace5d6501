pub mod Getting
pub mod Putting
pub mod Copying
pub mod Shaping
pub mod Rowing
