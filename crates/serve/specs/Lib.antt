pub mod Wanted
pub mod Received
