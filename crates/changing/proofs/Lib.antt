pub mod EntryLaws
pub mod WindowLaws
