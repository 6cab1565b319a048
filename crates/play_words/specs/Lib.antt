pub mod Node
pub mod Options
pub mod Words
