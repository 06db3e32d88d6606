pub mod FillingLaws
pub mod RecordedLaws
pub mod StoreLaws
