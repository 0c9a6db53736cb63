pub mod OrderLaws
pub mod StepLaws
