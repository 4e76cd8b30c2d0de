pub mod Bounds
pub mod Walk
pub mod Fronts
pub mod Laws
pub mod Answered
