-- Public: what it means that the heap refused memory.
pub mod Refusals
-- Inner: what clauses of readers cite. The public definition imports nothing of it.
pub mod Memory
