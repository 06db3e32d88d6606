pub mod BodyRead
pub mod Claim
pub mod EachLaws
pub mod HeaderRead
pub mod LineLaws
pub mod Spoilt
pub mod TickLaws
