pub mod Families
pub mod FamiliesLaws
pub mod Configuration
pub mod ConfigurationLaws
pub mod Layout
