pub mod Own
pub mod LocalOwn
