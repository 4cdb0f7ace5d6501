pub mod Numbers
pub mod Record
pub mod Ready
pub mod RecordLaws
pub mod RecordExamples
