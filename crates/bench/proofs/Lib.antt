pub mod Chains
pub mod Everywhere
pub mod Laws
pub mod SoundLaws
