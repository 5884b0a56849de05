pub mod Overruns
pub mod Order
