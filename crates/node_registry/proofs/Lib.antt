pub mod Keys
pub mod Rows
pub mod Fresh
pub mod QuietLemmas
pub mod Steps
pub mod Queries
