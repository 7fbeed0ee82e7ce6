pub mod Lists
pub mod Windows
pub mod Sights
pub mod Changes
pub mod Watches
pub mod InOrder
