pub mod WalkLaws
pub mod TextLaws
