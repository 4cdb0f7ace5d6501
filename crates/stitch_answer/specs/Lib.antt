pub mod Answer
pub mod GroupLaws
pub mod TableLaws
