pub mod Registration
pub mod Statuses
