pub mod PageTimes
pub mod Modes
pub mod Longest
pub mod Wanted
pub mod Clock
pub mod Watch
pub mod Codes
