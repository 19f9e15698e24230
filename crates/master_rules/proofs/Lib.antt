pub mod AccessLaws
pub mod IssuedLaws
pub mod OnTheBench
pub mod Thermometers
pub mod ThermometersLaws
