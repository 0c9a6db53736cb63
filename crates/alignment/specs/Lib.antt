pub mod Reference
pub mod PublicContracts
