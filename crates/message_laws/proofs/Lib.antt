mod Shapes
mod Opening
mod Ranges
mod Letters
mod Reading
mod Refusing
