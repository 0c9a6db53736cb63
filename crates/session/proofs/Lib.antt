pub mod Opening
pub mod Unique
pub mod Demand
pub mod Examples
pub mod Cited
pub mod ChainExists
pub mod Numbers
