-- Public: the bytes of trees.
pub mod packed
-- Inner: what is written of a value, and what is written so far.
pub mod inner
