pub mod Opening
pub mod Filled
pub mod Copied
pub mod Driven
pub mod Stepped
