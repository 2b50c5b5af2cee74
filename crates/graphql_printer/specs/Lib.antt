-- Public: what a reader of the contracts has to believe.
pub mod Controls
pub mod Printed
pub mod Rewritten
-- Inner: what private clauses cite.
pub mod inner
