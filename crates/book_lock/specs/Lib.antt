pub mod Begins
pub mod Tickets
pub mod Rule
pub mod Plays
pub mod Calls
pub mod Seats
