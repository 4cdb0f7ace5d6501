pub mod Ready
pub mod ValueLaws
