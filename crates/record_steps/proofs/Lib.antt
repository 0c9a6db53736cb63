pub mod StepLaws
pub mod CallLaws
pub mod HeadLaws
