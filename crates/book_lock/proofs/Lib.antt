pub mod Beginning
pub mod Keeping
pub mod Seating
pub mod Opening
pub mod Handing
