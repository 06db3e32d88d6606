pub mod GrammarLaws
pub mod KindLaws
pub mod ListLaws
pub mod Padding
pub mod TokenLaws
