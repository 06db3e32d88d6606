pub mod AnswerLaws
pub mod StepLaws
pub mod Turns
