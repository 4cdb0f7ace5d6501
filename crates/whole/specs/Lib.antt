pub mod Two
pub mod TwoLaws
pub mod Fit
pub mod FitLaws
pub mod IntegerLaws
