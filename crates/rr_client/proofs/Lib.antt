mod Rows
mod Stops
mod Submits
mod Waits
