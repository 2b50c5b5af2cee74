-- Inner: what private clauses cite.
pub mod Bodies
pub mod Descriptions
pub mod Directives
pub mod Fields
pub mod Finished
pub mod Funds
pub mod InputValues
pub mod Members
pub mod Schema
pub mod SchemaFile
pub mod Types
pub mod Views
