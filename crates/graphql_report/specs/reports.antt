-- Public: how a report begins, and which places it tells; where a finding stands; where the reading of a text began, and the
-- token at which it is refused; the first bad escape of that token; how it is named, what is expected in its place, which hints
-- there are, and what is said of a fault; and where the tokens begin that an error about definitions names.
pub mod Reports
pub mod Findings
pub mod Rests
pub mod Refused
pub mod Escapes
pub mod Words
pub mod Expected
pub mod Hints
pub mod Offsets
pub mod Faults
