pub mod ListLaws
pub mod Laws
pub mod Theorems
