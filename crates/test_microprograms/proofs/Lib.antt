pub mod Runs
pub mod Ways
pub mod Premises
pub mod Noted
