-- Public: the grammar of requests, their rules and their documents.
pub mod Documents
pub mod Laws
pub mod Placeless
pub mod Request
pub mod Requests
pub mod Rules
pub mod Selections
pub mod Variables
