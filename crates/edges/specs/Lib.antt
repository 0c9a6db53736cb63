pub mod Requests
pub mod Edges
