pub mod MeasuredLaws
