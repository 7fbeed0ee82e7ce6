pub mod Beginnings
pub mod Adding
pub mod Watching
pub mod Showing
pub mod Moves
