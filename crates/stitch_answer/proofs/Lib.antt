pub mod AnswerLaws
pub mod LookLaws
