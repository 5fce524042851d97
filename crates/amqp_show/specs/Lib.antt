pub mod Lines
pub mod Left
pub mod Hidden
pub mod Voice
pub mod Told
pub mod Show
pub mod Layout
pub mod Picture
