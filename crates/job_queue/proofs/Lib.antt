pub mod Jobs
pub mod Moves
pub mod Taking
pub mod Closing
pub mod Hosting
