pub mod Record
pub mod Statements
pub mod Before
