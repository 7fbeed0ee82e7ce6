pub mod Lively
pub mod Finishes
