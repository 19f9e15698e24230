pub mod Naming
pub mod Laws
pub mod Passes
pub mod PassesLaws
pub mod Printing
pub mod PrintingLaws
pub mod Streaming
