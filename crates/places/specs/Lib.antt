pub mod Answers
pub mod Walk
