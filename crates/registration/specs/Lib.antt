pub mod Redirect
pub mod Backoff
pub mod Round
