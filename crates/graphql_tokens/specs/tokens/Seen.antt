-- Tokens of the code, as clauses see them. The words are this project's own.
use Rattle.std.specs.Prelude.{◌≡◌, ◌+◌, Option, is_some, if◌then◌else◌}
use Rattle.std.specs.Iterator.{YieldsFirstBy}
use Rattle.graphql_tokens.specs.tokens.Token.{Token, Lexing, left}
use Rattle.graphql_tokens.specs.declared.lexer.Token.{Token as LentToken}

-- the token that the code lends, with the bytes of its text
abbrev pub seen : LentToken → Token
seen t = record { bare = record { kind = t.kind; spelling = t.text.now }; start = t.start; pos = t.pos }

-- a call of `next` gives the first token that is left, and counts it
abbrev pub GivesToken : Lexing → Option LentToken → Lexing → Type 0
GivesToken s r t = YieldsFirstBy seen left s r t × (t.whole ≡ s.whole) × (t.taken ≡ s.taken + (if is_some r then 1 else 0))
