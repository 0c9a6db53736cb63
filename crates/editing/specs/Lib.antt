pub mod Rewrote
pub mod Tags
