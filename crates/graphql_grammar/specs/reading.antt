-- Inner: what clauses of readers cite.
pub mod ArgumentViews
pub mod Arguments
pub mod DocumentOf
pub mod ErrorPlaces
pub mod ReadBy
pub mod Errors
pub mod Fields
pub mod Funds
pub mod OpenValues
pub mod OpenFunds
pub mod Operations
pub mod TypeSteps
pub mod Types
pub mod Values
