pub mod Listed
pub mod State
pub mod Machine
pub mod Reached
