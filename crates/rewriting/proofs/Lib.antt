pub mod Orders
pub mod Unique
pub mod Cited
pub mod Numbers
pub mod Promises
pub mod Examples
pub mod Refused
