pub mod Console
pub mod StoreCalls
pub mod StoreCallsLaws
pub mod SettingsConsole
pub mod SettingsSession
pub mod SettingsSessionLaws
