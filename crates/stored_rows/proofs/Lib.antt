pub mod OrderLaws
pub mod PlaceLaws
