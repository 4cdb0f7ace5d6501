pub mod Validate
pub mod ValidateLaws
pub mod ValidateExamples
pub mod ValidateTheorems
