pub mod Starts
pub mod PublicContracts
