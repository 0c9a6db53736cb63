pub mod ColumnLaws
pub mod StoredLaws
pub mod Cited
pub mod Unique
pub mod Numbers
pub mod Refused
pub mod Turned
pub mod Examples
