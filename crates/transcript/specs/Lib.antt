pub mod Transcript
pub mod PublicContracts
pub mod Desk
