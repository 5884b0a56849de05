pub mod Holders
pub mod Calls
pub mod Steps
pub mod Moves
pub mod Parts
