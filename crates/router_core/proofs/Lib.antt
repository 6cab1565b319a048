pub mod Texts
pub mod Inserts
pub mod Seeking
pub mod Parts
pub mod SamePlace
