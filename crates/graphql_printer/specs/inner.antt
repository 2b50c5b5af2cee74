-- Inner: what private clauses cite.
pub mod Places
pub mod PrintedRoots
pub mod Prints
pub mod Shown
pub mod ShownRequests
pub mod ShownSchemas
pub mod SpelledTexts
pub mod Strings
pub mod Words
