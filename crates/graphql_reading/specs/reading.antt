-- Inner: what clauses of readers cite.
pub mod Worth
pub mod Ahead
pub mod Parser
pub mod Funds
pub mod Given
pub mod Outcome
pub mod Spelled
