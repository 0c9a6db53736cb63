pub mod Measured
pub mod Unique
pub mod Cited
pub mod Numbers
pub mod Refused
