mod Walks
mod Widths
