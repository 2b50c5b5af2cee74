-- Public: what a reader of the public contracts has to believe.
pub mod grammar
-- Inner: what the readers' clauses and models cite. No public definition imports one of these.
pub mod reading
