pub mod Stops
pub mod Begins
pub mod Pieces
pub mod Going
pub mod Headers
pub mod Looking
pub mod Digits
pub mod Signals
