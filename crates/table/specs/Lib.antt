pub mod Answers
pub mod Claims
pub mod Examples
pub mod Reader
