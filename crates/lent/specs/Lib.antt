pub mod Compare
pub mod Lent
pub mod Places
pub mod Start
pub mod Survey
