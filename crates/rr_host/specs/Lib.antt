pub mod Chases
pub mod Standstills
pub mod Disks
pub mod Jobs
pub mod Ups
pub mod Doings
pub mod Hosts
pub mod Readings
