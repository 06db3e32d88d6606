pub mod Answers
pub mod Code
pub mod Single
pub mod Step
