pub mod SameLaws
pub mod LiesLaws
