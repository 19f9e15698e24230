pub mod RoomTheorem
pub mod Theorem
