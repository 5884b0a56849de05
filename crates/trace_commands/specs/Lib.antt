pub mod Reports
pub mod Checks
pub mod Draws
pub mod Images
pub mod TakenPages
