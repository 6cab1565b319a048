pub mod SessionNames
pub mod Rows
pub mod Ends
pub mod Steps
pub mod Idle
pub mod Others
pub mod Placeholders
pub mod QuietLemmas
mod Runs
