pub mod Waiting
pub mod Sized
pub mod Statements
