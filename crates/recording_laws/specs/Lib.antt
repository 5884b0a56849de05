pub mod Whole
pub mod FromMiddle
