pub mod Asking
pub mod FreshNumbers
pub mod Seating
pub mod Standings
pub mod Waits
