pub mod Errors
pub mod Kept
pub mod Store
pub mod Converting
