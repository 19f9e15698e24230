pub mod Shared
pub mod HeldLaws
