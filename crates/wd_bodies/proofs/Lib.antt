pub mod Quoted
pub mod Joined
pub mod Punctuation
pub mod Parsed
pub mod Strings
pub mod Lexing
pub mod WrittenMembers
pub mod ReadAgainLemmas
