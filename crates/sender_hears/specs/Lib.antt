pub mod Words
pub mod Lives
pub mod Deeds
pub mod Laws
