pub mod PublicContracts
pub mod Chain
