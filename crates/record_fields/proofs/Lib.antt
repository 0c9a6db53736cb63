pub mod SizeLaws
pub mod FieldsLaws
pub mod SpotLaws
pub mod LocalLaws
pub mod Inverse
pub mod Kept
pub mod Examples
