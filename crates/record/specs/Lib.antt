pub mod PublicContracts
