pub mod Bytes
pub mod FileLaws
pub mod Theorems
