pub mod Sides
pub mod Rows
pub mod Tests
pub mod Laws
pub mod Held
pub mod Scans
pub mod Evidence
