pub mod Lines
pub mod LinesExamples
pub mod LinesTheorems
pub mod Decimal
pub mod DecimalTheorems
