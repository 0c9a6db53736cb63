pub mod Outcomes
pub mod Unique
pub mod Examples
pub mod GatedRow
pub mod Cited
pub mod Numbers
pub mod Refused
