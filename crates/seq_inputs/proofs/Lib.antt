pub mod Headings
pub mod Refusing
pub mod Said
pub mod Verifieds
