-- What the answers share.
pub mod Steps
pub mod Counts
pub mod Numbers
-- The bytes determine the tree.
pub mod Determined
pub mod ValuesDetermined
pub mod RequestsDetermined
pub mod SchemasDetermined
