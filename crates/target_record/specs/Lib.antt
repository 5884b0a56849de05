pub mod Record
pub mod Geometry
pub mod Judging
pub mod Whole
