pub mod Clears
pub mod Stands
