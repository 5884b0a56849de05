pub mod Filled
pub mod Left
pub mod Places
pub mod Verdicts
pub mod Written
