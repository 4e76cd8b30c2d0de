pub mod Utf8
pub mod Encode
pub mod Statements
pub mod Pass
