pub mod Examples
pub mod Room
pub mod OpeningLaws
pub mod Unique
pub mod Promises
pub mod Cited
