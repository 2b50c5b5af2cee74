-- Inner: what private clauses cite.
pub mod Definitions
pub mod OpenSets
pub mod Request
pub mod Seeds
pub mod SelectionFunds
pub mod SelectionSteps
pub mod Selections
pub mod Sorting
pub mod Variables
