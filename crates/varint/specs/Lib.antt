pub mod Varint
pub mod Statements
pub mod Before
