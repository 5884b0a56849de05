pub mod Word
pub mod Text
pub mod Reading
pub mod Codes
