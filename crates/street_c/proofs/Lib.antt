mod Steps
mod AsBox
mod Lines
