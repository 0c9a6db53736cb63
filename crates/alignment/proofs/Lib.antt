pub mod Checked
pub mod Mirror
pub mod Rising
pub mod Examples
pub mod Unique
pub mod Cited
pub mod Numbers
pub mod Refused
