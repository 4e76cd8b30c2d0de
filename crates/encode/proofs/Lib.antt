pub mod WriteLaws
pub mod Sizes
pub mod TextLaws
