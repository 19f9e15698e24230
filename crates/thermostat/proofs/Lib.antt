pub mod CallsLaws
pub mod RaceLaws
