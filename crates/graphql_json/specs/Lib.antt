-- Public: the JSON of trees and errors.
pub mod nodes
-- Public: the buffer that bytes are written into, for `graphql_packed`.
pub mod buffer
-- Inner: what is written of a value, and what is written so far.
pub mod inner
