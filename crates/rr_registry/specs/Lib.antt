pub mod Kept
pub mod Tables
pub mod Numbered
pub mod Places
