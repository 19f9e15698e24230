pub mod PinningLaws
pub mod WriteLaws
pub mod FinishedLaws
pub mod NeverLaws
pub mod ReadLaws
