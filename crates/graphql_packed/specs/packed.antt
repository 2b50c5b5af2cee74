-- Public: the bytes of trees, part by part.
pub mod Bytes
pub mod Values
pub mod Requests
pub mod Schemas
pub mod OuterPlaces
