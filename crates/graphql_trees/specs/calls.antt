-- Public: what accessors and other calls on trees give.
pub mod Defaults
pub mod Hashing
pub mod Lending
pub mod Locations
pub mod Operations
pub mod Sets
