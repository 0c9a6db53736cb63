pub mod Records
pub mod PublicContracts
