pub mod History
pub mod Demand
pub mod IssuedLaws
pub mod Kept
pub mod Reached
pub mod Counted
