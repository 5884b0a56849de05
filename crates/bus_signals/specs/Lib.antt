pub mod Names
pub mod Spots
pub mod Roles
pub mod Sources
