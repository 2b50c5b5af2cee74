-- What a walk over a text keeps, and what it does to pass a character.
use Rattle.std.specs.Prelude.{◌≡◌, ◌<◌, ◌^◌, ℕ, ◌+◌, ◌++◌, length, drop}
use Rattle.std.specs.Char.{encode_utf8, len_utf8}
use Rattle.std.specs.Str.{IsUtf8, IsCharBoundary}
use Rattle.graphql_tokens.specs.declared.pos.text_walk.TextWalk.{TextWalk}

-- a character begins at the offset, or the text ends there
pub record IsWalking (a : TextWalk) : Type 0 where
  pub boundary : IsCharBoundary a.text.now a.offset
  pub utf8 : IsUtf8 a.text.now
  pub bound : length a.text.now < 2 ^ 63

-- the character c stands at the offset of the old walk, and the new one is past it
pub record Passes (c : ℕ) (old new : TextWalk) : Type 0 where
  pub here : drop old.offset old.text.now ≡ encode_utf8 c ++ drop new.offset old.text.now
  pub after : new.offset ≡ old.offset + len_utf8 c
