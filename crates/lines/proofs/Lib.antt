pub mod UpToLaws
pub mod MarkLaws
