pub mod Read
pub mod Statements
