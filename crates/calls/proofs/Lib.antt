pub mod Standing
pub mod Reaches
