pub mod Position
pub mod Row
pub mod PublicContracts
