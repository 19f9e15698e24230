pub mod Commands
pub mod Bytes
pub mod BytesLaws
