pub mod ClaimsLaws
pub mod Laws
pub mod RepairLaws
pub mod RoomLaws
pub mod SpacesLaws
