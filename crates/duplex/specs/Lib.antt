pub mod Duplex
pub mod Measured
pub mod PublicContracts
