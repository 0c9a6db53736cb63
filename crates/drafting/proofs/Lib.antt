pub mod DraftLaws
