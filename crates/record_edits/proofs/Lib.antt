pub mod PlanIs
pub mod Agreement
pub mod Removal
pub mod EditedLaws
