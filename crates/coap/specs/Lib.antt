pub mod Option
pub mod Frame
pub mod Write
pub mod Statements
