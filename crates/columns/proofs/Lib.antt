pub mod Marked
pub mod Zeroes
