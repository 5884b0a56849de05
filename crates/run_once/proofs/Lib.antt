pub mod Ends
pub mod Given
pub mod Refusing
pub mod Told
pub mod Turns
