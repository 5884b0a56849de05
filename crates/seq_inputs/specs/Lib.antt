pub mod Exits
pub mod Inputs
pub mod Headed
pub mod Lines
pub mod Refusals
pub mod Stops
