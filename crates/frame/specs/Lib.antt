pub mod Frames
pub mod FramesLaws
pub mod ReadLine
pub mod ReadLineLaws
pub mod Writing
pub mod WritingLaws
pub mod Recording
pub mod Cases
