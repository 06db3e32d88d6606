pub mod Order
pub mod Rests
pub mod Rows
