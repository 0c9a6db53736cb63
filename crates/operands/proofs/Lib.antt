pub mod NumberLaws
pub mod SizeLaws
