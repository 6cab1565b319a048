pub mod Placing
pub mod Kept
pub mod Serving
