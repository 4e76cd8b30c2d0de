pub mod Bytes
pub mod Record
pub mod Form
pub mod Statements
