pub mod Table
pub mod Found
pub mod Statements
