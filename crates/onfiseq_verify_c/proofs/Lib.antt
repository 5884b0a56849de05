pub mod Placed
pub mod Found
