-- Public: what an answer of a parser means, whichever language it reads.
pub mod Answers
pub mod Breaches
pub mod Language
pub mod Memory
pub mod Reads
