-- Public: what a reader of the contracts has to believe.
pub mod checked
-- Inner: what private clauses cite.
pub mod inner
