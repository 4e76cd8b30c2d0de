pub mod Stretched
pub mod Laws
pub mod Theorems
