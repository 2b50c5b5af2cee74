-- Inner: what the code keeps and finds, on the way to the public definitions.
pub mod Blocks
pub mod ByteClasses
pub mod Contents
pub mod Counting
pub mod Escapes
pub mod Lexer
pub mod Lexing
pub mod Numbers
pub mod Numerals
pub mod Quoted
pub mod Reading
pub mod Running
pub mod SmallText
pub mod TextWalk
