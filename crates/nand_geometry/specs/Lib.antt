pub mod Flag
pub mod Limits
pub mod Optional
pub mod Page
pub mod Reading
pub mod Row
pub mod Codes
