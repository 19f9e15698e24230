pub mod LayingLaws
pub mod PuttingLaws
