pub mod Texts
pub mod Hosts
pub mod Steps
pub mod Ending
