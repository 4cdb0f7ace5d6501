pub mod Report
pub mod MostTheorems
pub mod ReportLaws
