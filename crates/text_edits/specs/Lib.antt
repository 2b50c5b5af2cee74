-- Public: what a reader of the contracts has to believe.
-- The lines of a text, in what units a column is counted, positions in a text, texts after a change, and where lines begin.
pub mod Lines
pub mod Units
pub mod Positions
pub mod Edits
pub mod Indexes
-- Inner: how a text is walked line after line, and a text in pieces.
pub mod Starts
pub mod Pieces
