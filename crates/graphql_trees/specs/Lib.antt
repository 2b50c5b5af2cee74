-- Public: what a reader of the public contracts has to believe.
pub mod trees
pub mod calls
-- Inner: what private clauses and models cite. No public definition imports one of these.
pub mod inner
