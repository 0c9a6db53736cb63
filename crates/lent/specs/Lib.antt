pub mod Lists
pub mod Outcome
pub mod Filled
pub mod Answers
