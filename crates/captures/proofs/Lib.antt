pub mod EdgesLaws
pub mod FoldedLaws
