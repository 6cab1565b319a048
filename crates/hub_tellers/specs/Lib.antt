pub mod Tells
pub mod Starts
pub mod Records
