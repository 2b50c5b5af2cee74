-- Public: the grammar of what requests and schema files share.
pub mod Arguments
pub mod Distinct
pub mod Merged
pub mod Operations
pub mod Placeless
pub mod Types
pub mod Values
