pub mod Codes
pub mod Examples
pub mod Rows
pub mod Turning
