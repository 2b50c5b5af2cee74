-- Public: what a reader of the contracts has to believe.
-- The changes that a message contains, texts after the changes of an editor, ranges of diagnostics, and texts after the edits that are answered.
pub mod Changes
pub mod Edited
pub mod Members
pub mod Ranges
