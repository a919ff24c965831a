mod Overlap
mod Doing
