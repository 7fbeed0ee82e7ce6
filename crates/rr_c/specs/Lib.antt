pub mod Shown
pub mod Calls
