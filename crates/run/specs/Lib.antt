pub mod Run
pub mod Front
pub mod Post
