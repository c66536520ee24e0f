pub mod Tests
pub mod Sorts
pub mod Commutes
pub mod Edits
pub mod Searches
pub mod Indexes
