pub mod Answers
pub mod Calls
pub mod Measured
pub mod PublicContracts
