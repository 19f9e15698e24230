pub mod Requests
pub mod RequestsLaws
pub mod StoreRequests
