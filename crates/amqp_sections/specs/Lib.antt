pub mod MessageId
pub mod Header
pub mod Properties
