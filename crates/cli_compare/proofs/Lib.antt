pub mod Comparisons
pub mod Texts
