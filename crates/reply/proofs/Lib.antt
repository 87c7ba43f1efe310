-- The laws of steps on the work, of replies, and of the answers to requests.
pub mod Steps
pub mod Replies
pub mod States
pub mod Answers
pub mod Asking
