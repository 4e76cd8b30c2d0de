pub mod Groups
pub mod Setup
pub mod Waiting
