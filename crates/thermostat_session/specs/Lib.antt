pub mod ProbeRequests
pub mod ProbeRequestsLaws
pub mod ProbeLines
pub mod ProbeLinesLaws
pub mod ProbeConsole
pub mod ProbeConsoleLaws
pub mod ProbeSession
pub mod ProbeSessionLaws
