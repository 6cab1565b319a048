pub mod Escapes
pub mod Nodes
pub mod Hour
pub mod Page
