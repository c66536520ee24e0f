pub mod Calls
pub mod Placed
pub mod Steps
pub mod Runs
