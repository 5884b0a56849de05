pub mod Converted
pub mod Made
pub mod Several
