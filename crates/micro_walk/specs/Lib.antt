pub mod Shape
pub mod Faults
pub mod Verdicts
pub mod Erase
pub mod Certified
pub mod Searched
