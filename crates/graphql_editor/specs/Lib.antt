-- Public: what a reader of the contracts has to believe.
-- Parts of a text, and how they lie in one another.
pub mod Spans
