pub mod GatheringLaws
pub mod KeptLaws
pub mod ListRunsLaws
pub mod ListsLaws
pub mod RowsLaws
pub mod Theorem
pub mod TripsLaws
pub mod WalkLaws
