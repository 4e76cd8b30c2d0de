pub mod Laws
pub mod Sizes
pub mod Bytes
pub mod Theorems
