pub mod Filling
pub mod Recorded
pub mod Written
