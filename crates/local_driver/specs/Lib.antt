pub mod World
pub mod Idles
pub mod Beginning
pub mod Calls
pub mod Served
pub mod Serving
