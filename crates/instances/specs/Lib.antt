pub mod Example
pub mod Shown
pub mod Index
pub mod Reply
