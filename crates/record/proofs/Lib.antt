pub mod RecordLaws
pub mod Cited
pub mod Unique
pub mod Numbers
pub mod Refused
pub mod Made
pub mod Promises
