pub mod FormLaws
pub mod PassLaws
pub mod EncodeLaws
pub mod Theorems
