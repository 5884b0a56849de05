pub mod Decoding
pub mod Judging
pub mod Tails
pub mod Widening
