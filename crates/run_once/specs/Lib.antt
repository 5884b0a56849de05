pub mod Once
pub mod Runs
