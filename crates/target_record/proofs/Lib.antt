pub mod Stored
pub mod Fitting
pub mod Planes
pub mod Going
