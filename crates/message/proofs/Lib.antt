pub mod RowLaws
pub mod ReadLaws
