mod Turns
mod Leaves
mod Readings
