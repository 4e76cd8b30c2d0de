pub mod Laws
pub mod WriteLaws
pub mod Theorems
