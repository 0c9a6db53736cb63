pub mod Values
pub mod Changes
pub mod Plans
pub mod Records
