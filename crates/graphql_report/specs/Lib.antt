-- `fronts` and `reports` are public: what a reader of the contracts of this crate has to believe. `inner` is for clauses of
-- private functions.
pub mod fronts
pub mod reports
pub mod inner
