pub mod Admitted
pub mod Pieces
pub mod Roomy
pub mod Unique
pub mod Cited
pub mod Numbers
pub mod Refused
