mod Steps
mod Walks
mod DiesFit
mod Images
