pub mod Lines
pub mod Sampling
