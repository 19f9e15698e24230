pub mod Noise
pub mod Claims
pub mod DifferencesLaws
pub mod HoldsLaws
pub mod ParityLaws
pub mod DistanceLaws
pub mod HiddenLaws
