-- Inner: what is written of a value, and what is written so far.
pub mod Forms
pub mod Written
pub mod Roots
pub mod Buffers
pub mod Words
pub mod Sheets
