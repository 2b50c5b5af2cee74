-- Inner: what private clauses cite.
pub mod Begun
