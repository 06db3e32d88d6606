pub mod Answers
pub mod Building
pub mod Fields
pub mod Grammar
pub mod NameList
pub mod Names
pub mod Tokens
