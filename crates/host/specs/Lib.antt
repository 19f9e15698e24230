pub mod HostNaming
pub mod Hosts
pub mod Laws
pub mod HostsLaws
