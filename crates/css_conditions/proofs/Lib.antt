pub mod Steps
pub mod Products
pub mod Vectors
