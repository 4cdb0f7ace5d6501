pub mod DecimalLaws
pub mod LinesLaws
