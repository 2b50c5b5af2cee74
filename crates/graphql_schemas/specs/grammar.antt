-- Public: the grammar of schema files, their rules and their documents.
pub mod Descriptions
pub mod Directives
pub mod Documents
pub mod Fields
pub mod InputValues
pub mod Laws
pub mod Members
pub mod Placeless
pub mod Rules
pub mod Schema
pub mod SchemaFile
pub mod Schemas
pub mod Types
