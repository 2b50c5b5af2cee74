-- What a running place keeps.
use Rattle.std.specs.Prelude.{◌≡◌, ◌<◌, ℕ, ◌+◌, List, [], ◌∷◌, true, drop, slice_index}
use Rattle.std.specs.Str.{chars}
use Rattle.graphql_tokens.specs.tokens.Place.{place, is_in_line}
use Rattle.graphql_tokens.specs.inner.TextWalk.{IsWalking}
use Rattle.graphql_tokens.specs.declared.pos.running.RunningPlace.{RunningPlace}

-- the characters from the offset on
abbrev pub ahead : RunningPlace → List ℕ
ahead a = chars (drop a.walk.offset a.walk.text.now)

-- the line is that of the offset, and its column counts bytes from the origin
pub record IsRunning (a : RunningPlace) : Type 0 where
  pub reading : IsWalking a.walk
  pub line : a.line ≡ (place a.walk.text.now a.walk.offset).line
  pub column : a.origin + (place a.walk.text.now a.walk.offset).column ≡ a.walk.offset + 1

-- the first character is there, is an ASCII one, and ends no line
abbrev pub BeginsInAscii : List ℕ → Type 0
BeginsInAscii [] = ⊥
BeginsInAscii (c ∷ cs) = (c < 128) × (is_in_line c ≡ true)

-- from the place on, so many bytes are ASCII characters that end no line
abbrev pub IsRunOfAscii : List ℕ → ℕ → ℕ → Type 0
IsRunOfAscii text at n = (k : ℕ) → k < n → (slice_index text (at + k) < 128) × (is_in_line (slice_index text (at + k)) ≡ true)
