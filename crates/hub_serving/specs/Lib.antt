pub mod Calls
pub mod Outside
pub mod Served
pub mod Serving
pub mod Seats
pub mod Tables
pub mod Places
