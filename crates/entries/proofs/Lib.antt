mod Former
mod Layers
mod Writes
