pub mod Laws
pub mod Requests
pub mod Texts
pub mod Judged
