pub mod Answers
pub mod BeforeWords
pub mod Body
pub mod Header
pub mod Index
pub mod Left
pub mod Marks
pub mod Variables
