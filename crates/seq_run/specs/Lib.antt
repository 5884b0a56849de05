pub mod Lines
pub mod Happened
pub mod Endings
pub mod Written
pub mod Timed
pub mod Runs
pub mod Hosted
