pub mod Fine
pub mod FineLaws
pub mod Stored
pub mod Judgement
pub mod InDegrees
pub mod Cases
