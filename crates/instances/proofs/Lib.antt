pub mod Example
pub mod Exact
pub mod Copied
pub mod OwnStretches
pub mod Shown
pub mod Few
pub mod Index
pub mod Reply
