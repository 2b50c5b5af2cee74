-- Inner: what private clauses cite.
pub mod Called
pub mod Told
pub mod Strings
pub mod Carets
pub mod Left
