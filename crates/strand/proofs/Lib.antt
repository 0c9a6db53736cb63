pub mod Spots
pub mod Lengths
