pub mod Faults
pub mod Found
pub mod Names
pub mod ShellWords
