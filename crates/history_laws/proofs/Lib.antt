pub mod Corollaries
pub mod Reached
pub mod Theorem
