-- Public: places, and the token list of a text.
pub mod Alike
pub mod BlockText
pub mod Blocks
pub mod Calculator
pub mod Classes
pub mod Cuts
pub mod Edition
pub mod Ignored
pub mod Kinds
pub mod Numbers
pub mod Place
pub mod Proper
pub mod Seen
pub mod Spelling
pub mod Strings
pub mod Token
pub mod Within
