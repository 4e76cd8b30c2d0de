pub mod Options
pub mod Delay
pub mod Request
