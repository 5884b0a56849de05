pub mod AndBytes
pub mod Copied
pub mod Stepping
pub mod Filling
