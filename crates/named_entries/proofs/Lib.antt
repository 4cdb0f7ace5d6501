pub mod AreaWays
pub mod StitchWays
