pub mod Report
pub mod Statements
