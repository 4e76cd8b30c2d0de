pub mod Listed
pub mod Pick
pub mod Put
pub mod Same
pub mod Stretch
pub mod Walk
pub mod Text
