pub mod Departure
pub mod DepartureLaws
pub mod Claims
pub mod ClaimsLaws
pub mod Heading
pub mod HeadingLaws
