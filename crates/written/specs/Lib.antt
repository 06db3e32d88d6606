pub mod Claim
pub mod Layout
pub mod Spoilt
