pub mod Entries
pub mod Requests
pub mod SameRequests
pub mod SameSchemas
