pub mod Counted
pub mod Joined
pub mod Order
