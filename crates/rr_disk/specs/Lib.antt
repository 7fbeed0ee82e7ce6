pub mod Areas
pub mod Asked
pub mod Crash
pub mod Failing
pub mod Files
pub mod Memory
pub mod Strips
