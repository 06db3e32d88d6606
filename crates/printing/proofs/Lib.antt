pub mod DecimalLaws
pub mod Determined
pub mod PrintedLaws
pub mod PutLaws
