pub mod Told
pub mod Heard
pub mod Lines
pub mod Cycles
pub mod Readies
