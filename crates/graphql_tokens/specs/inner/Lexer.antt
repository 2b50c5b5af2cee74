-- What a lexer keeps.
use Rattle.std.specs.Prelude.{◌≡◌, ◌≤◌, ℕ, false, if◌then◌else◌, List, [], length, take, drop}
use Rattle.std.specs.Str.{chars}
use Rattle.graphql_tokens.specs.tokens.Cuts.{is_last}
use Rattle.graphql_tokens.specs.tokens.Token.{Token}
use Rattle.graphql_tokens.specs.inner.Reading.{tokens}
use Rattle.graphql_tokens.specs.inner.Lexing.{RunsOver}
use Rattle.graphql_tokens.specs.declared.lexer.Tokens.TheInside.{Inside}

-- the tokens from this byte offset on
abbrev pub tokens_at : List ℕ → ℕ → List Token
tokens_at bytes at = tokens (chars (take at bytes)) (chars (drop at bytes))

pub record IsLexing (a : Inside) : Type 0 where
  pub runs : RunsOver a.text.now a.places
  -- so many tokens are before the offset, and all where the last was given
  pub given : drop a.taken (tokens_at a.text.now 0) ≡ (if is_last a.last then [] else tokens_at a.text.now a.places.walk.offset)
  pub counted : is_last a.last ≡ false → a.taken ≤ a.places.walk.offset
  pub within : a.taken ≤ length (tokens_at a.text.now 0)
