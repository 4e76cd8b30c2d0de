pub mod EachLaws
pub mod FieldLaws
pub mod SizeLaws
pub mod Theorems
