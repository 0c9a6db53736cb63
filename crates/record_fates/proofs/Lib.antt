pub mod FateLaws
pub mod StaleLaws
pub mod OpeningLaws
