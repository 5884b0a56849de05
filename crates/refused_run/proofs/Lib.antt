pub mod Coming
pub mod Courses
