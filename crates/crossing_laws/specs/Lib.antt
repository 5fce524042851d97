pub mod Ends
pub mod Agreement
pub mod Lives
pub mod Laws
pub mod Example
pub mod Endpoints
pub mod Moving
