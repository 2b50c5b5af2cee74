-- Public: what a reader of the contracts has to believe.
pub mod texts
-- Inner: what may touch what, what is written so far, and passes over characters and lines.
pub mod inner
