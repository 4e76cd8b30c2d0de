pub mod Decimal
pub mod Ids
pub mod Statements
