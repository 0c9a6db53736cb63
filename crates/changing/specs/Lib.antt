pub mod Windows
pub mod Drafts
