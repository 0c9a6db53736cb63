pub mod Examples
pub mod LetterLaws
pub mod RowLaws
