pub mod Bytes
pub mod CallLaws
pub mod First65
pub mod ListsFit
pub mod ReadBack
pub mod RecordLaws
pub mod Rows
pub mod Writes
