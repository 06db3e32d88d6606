pub mod Agreement
pub mod CompleteLaws
pub mod Demands
pub mod JudgingLaws
pub mod RunLaws
pub mod SameExercise
pub mod SingleSteps
