mod Places
mod Sizes
