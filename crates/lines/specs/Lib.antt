pub mod Words
pub mod WordsLaws
pub mod WordEnds
pub mod WordEndsLaws
pub mod Fields
pub mod FieldsLaws
