pub mod BeforeWords
pub mod BodyLaws
pub mod Choices
pub mod FewSteps
pub mod HeaderLaws
pub mod Marks
pub mod StepTicks
pub mod VariableLaws
