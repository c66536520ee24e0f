pub mod Numbers
pub mod Format
pub mod Views
pub mod Sequence
