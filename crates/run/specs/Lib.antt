pub mod Agreement
pub mod Complete
pub mod Demands
pub mod Judgement
pub mod Refusals
pub mod Run
pub mod StepByStep
