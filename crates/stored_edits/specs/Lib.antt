pub mod Edits
pub mod PublicContracts
