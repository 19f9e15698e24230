pub mod CompleteLaws
pub mod DepartureLaws
pub mod Examples
pub mod ListingLaws
pub mod Lists
pub mod NumbersLaws
pub mod PassLoop
pub mod SearchLoop
