pub mod Assembly
pub mod Explained
pub mod Trace
