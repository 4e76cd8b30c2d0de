pub mod ValueLaws
pub mod Formed
pub mod NamedLaws
pub mod Strings
