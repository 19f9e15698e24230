pub mod ComplementLaws
pub mod DifferencesLaws
pub mod RoundingLaws
pub mod SumsLaws
