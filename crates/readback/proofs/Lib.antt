pub mod Built
pub mod Joined
pub mod Longest
pub mod Examples
