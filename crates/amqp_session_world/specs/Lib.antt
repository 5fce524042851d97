pub mod Paired
pub mod Turn
pub mod Lives
pub mod Carried
pub mod Worlds
pub mod Answers
pub mod Laws
