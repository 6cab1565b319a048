pub mod Counts
pub mod Crew
