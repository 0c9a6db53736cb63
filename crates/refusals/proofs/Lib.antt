pub mod Examples
pub mod Sum
