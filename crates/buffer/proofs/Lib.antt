pub mod Tests
pub mod Puts
pub mod Sames
pub mod Stretches
pub mod Walks
