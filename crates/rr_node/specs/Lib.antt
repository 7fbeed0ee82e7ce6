pub mod Runs
pub mod Seats
pub mod Stances
pub mod Views
pub mod Worlds
