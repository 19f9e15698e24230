pub mod Place
pub mod PlaceLaws
pub mod Standing
pub mod Pass
pub mod Sweep
