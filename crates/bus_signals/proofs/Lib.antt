pub mod Added
pub mod Joined
