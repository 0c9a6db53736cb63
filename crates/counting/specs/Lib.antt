pub mod Reads
pub mod Counting
