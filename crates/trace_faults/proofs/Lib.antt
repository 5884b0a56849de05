pub mod Judged
pub mod Shown
pub mod Inside
pub mod Middles
pub mod Wholes
pub mod Knowing
