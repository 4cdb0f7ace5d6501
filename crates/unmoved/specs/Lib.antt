pub mod Unmoved
pub mod UnmovedLaws
pub mod UnmovedTheorems
