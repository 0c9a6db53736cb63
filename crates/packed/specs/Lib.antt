pub mod Packed
pub mod Stored
pub mod Walks
