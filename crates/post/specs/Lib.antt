pub mod Value
pub mod Judge
