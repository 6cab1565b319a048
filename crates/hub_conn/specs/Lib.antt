pub mod Conversation
pub mod Inbox
pub mod Work
pub mod Talk
pub mod CallLaws
pub mod SpentLaws
pub mod WantLaws
