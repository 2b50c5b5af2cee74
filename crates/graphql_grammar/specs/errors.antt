-- Public: what an error says, and where it stands.
pub mod Errors
pub mod Small
