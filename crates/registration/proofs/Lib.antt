pub mod Laws
pub mod Waits
pub mod Rounds
