pub mod Carried
pub mod CarriedLaws
pub mod Pieces
pub mod Cuts
pub mod Walk
