pub mod Fields
pub mod Ready
pub mod FieldLaws
pub mod NumberLaws
pub mod StepLaws
