pub mod Blocks
pub mod Bitmap
pub mod Block
pub mod Merge
pub mod Statements
