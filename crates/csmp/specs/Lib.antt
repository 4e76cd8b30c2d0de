pub mod Tables
pub mod Values
pub mod Named
pub mod Strings
