pub mod StreamingLaws
