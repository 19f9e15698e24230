pub mod Store
pub mod Calls
pub mod Written
pub mod StoreLaws
pub mod Runs
pub mod KeptLaws
