pub mod Geometry
pub mod Check
pub mod Status
pub mod Pauses
