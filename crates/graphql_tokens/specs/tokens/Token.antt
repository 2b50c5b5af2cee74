-- Tokens as clauses see them. GraphQL October 2021, section 2.1.6, has the kinds; the records are this project's own.
use Rattle.std.specs.Prelude.{ℕ, List, drop}
use Rattle.graphql_tokens.specs.declared.pos.Pos.{Pos}
use Rattle.graphql_tokens.specs.declared.lexer.TokenKind.{TokenKind}

-- a kind, and the bytes of the spelling
pub record Bare : Type 0 where
  pub kind : TokenKind
  pub spelling : List ℕ

-- a bare token with its byte offset and its place
pub record Token : Type 0 where
  pub bare : Bare
  pub start : ℕ
  pub pos : Pos

-- what a lexer shows: its text, the tokens of that, and how many it has given
pub record Lexing : Type 0 where
  pub text : List ℕ
  pub whole : List Token
  pub taken : ℕ

-- the tokens still to come
abbrev pub left : Lexing → List Token
left l = drop l.taken l.whole
