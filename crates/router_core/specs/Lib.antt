pub mod Patterns
pub mod Targets
pub mod Routes
pub mod Rows
pub mod Ids
