pub mod Codec
pub mod Places
pub mod Sequence
