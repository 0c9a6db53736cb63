pub mod Handed
pub mod HandedReadings
pub mod HandedTags
pub mod Returned
