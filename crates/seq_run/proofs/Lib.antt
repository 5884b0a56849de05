pub mod Hosting
pub mod JobLines
pub mod Endings
pub mod Happening
pub mod Printing
pub mod Timing
pub mod FilesMade
pub mod Outcomes
