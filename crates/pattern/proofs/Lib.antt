pub mod Unique
pub mod Examples
pub mod Cases
pub mod Cited
