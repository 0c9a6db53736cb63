pub mod PlanLaws
pub mod GrowthLaws
pub mod GoneLaws
