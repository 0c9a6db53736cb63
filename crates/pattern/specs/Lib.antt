pub mod Case
pub mod Patterns
pub mod PublicContracts
