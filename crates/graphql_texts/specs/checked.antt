-- Public: when a text is good, what it is read as, where a diagnosis of it is shown, and what is written in its place and of its tree.
pub mod Diagnosed
pub mod Good
pub mod Language
pub mod Rewritten
