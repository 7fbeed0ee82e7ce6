pub mod Fates
pub mod Jobs
pub mod Labels
pub mod Pictures
pub mod TapePictures
