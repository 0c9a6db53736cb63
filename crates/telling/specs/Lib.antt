pub mod Returns
pub mod Starts
pub mod Told
