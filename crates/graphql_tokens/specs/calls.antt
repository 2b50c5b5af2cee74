-- Public: what accessors give.
pub mod Integers
