-- Public: what a request costs, and what the rules of the linter say.
pub mod Costs
pub mod Requests
pub mod Schemas
-- Inner: how the costs of fragments come to be known.
pub mod Prices
