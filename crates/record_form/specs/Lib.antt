pub mod Form
pub mod Ready
