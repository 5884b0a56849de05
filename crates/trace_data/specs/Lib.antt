pub mod Data
pub mod Runs
pub mod Numbers
pub mod Reads
