pub mod Owning
pub mod Numbers
pub mod Seen
