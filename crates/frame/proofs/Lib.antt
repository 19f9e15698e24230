pub mod RecordingLaws
pub mod WritingLaws
pub mod ClearLaws
pub mod SplitLaws
pub mod NumberLaws
