pub mod KeptLaws
pub mod RunsLaws
