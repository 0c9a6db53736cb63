pub mod Reads
pub mod PublicContracts
pub mod Mirrors
