pub mod HandedRecords
pub mod Numbers
pub mod RecordCited
pub mod Refused
pub mod Unique
