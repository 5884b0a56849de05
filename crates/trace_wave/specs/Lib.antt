pub mod Levels
pub mod Changes
pub mod Header
pub mod Wave
pub mod Counting
pub mod Keeping
