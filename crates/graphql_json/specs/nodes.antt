-- Public: the JSON of trees and errors, node by node.
pub mod Nodes
pub mod Values
pub mod Requests
pub mod Schemas
pub mod Errors
pub mod SourceOrder
