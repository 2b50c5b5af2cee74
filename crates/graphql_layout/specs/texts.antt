-- Public: texts with the same tokens, texts with nothing else, the comments and tokens of a text, texts that are laid out anew, how lines end,
-- and block strings that are written from values.
pub mod SameTokens
pub mod Specified
pub mod OneReading
pub mod Shortened
pub mod Minified
pub mod Items
pub mod LaidOut
pub mod LineEnds
pub mod Blocks
