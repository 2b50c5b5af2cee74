-- What the proofs share.
pub mod Blocks
pub mod Loans
pub mod Numbers
pub mod Words
