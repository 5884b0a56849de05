pub mod Codes
pub mod Tokens
pub mod Lines
pub mod Linux
pub mod Reading
pub mod Passing
pub mod Carried
