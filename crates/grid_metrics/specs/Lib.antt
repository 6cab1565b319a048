pub mod Rows
pub mod Metrics
