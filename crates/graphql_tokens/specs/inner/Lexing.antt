-- What the lexer's parts find in what is ahead.
use Rattle.std.specs.Prelude.{◌≡◌, ◌≤◌, ◌<◌, ℕ, ◌⊎◌, List, [], ◌∷◌, Bool, false, Option, Some, None, if◌then◌else◌}
use Rattle.graphql_tokens.specs.tokens.Cuts.{is_last}
use Rattle.graphql_tokens.specs.inner.Running.{IsRunning, ahead}
use Rattle.graphql_tokens.specs.declared.lexer.TokenKind.{TokenKind}
use Rattle.graphql_tokens.specs.declared.pos.running.RunningPlace.{RunningPlace}

-- the place runs over this text
pub record RunsOver (bytes : List ℕ) (a : RunningPlace) : Type 0 where
  pub running : IsRunning a
  pub same : a.walk.text.now ≡ bytes

-- the byte b is the first of these characters
abbrev pub IsFirstByte : ℕ → List ℕ → Type 0
IsFirstByte b [] = ⊥
IsFirstByte b (c ∷ cs) = ((b < 128) × (c ≡ b)) ⊎ ((128 ≤ b) × (b < 256) × (128 ≤ c))

-- the rest of a reader that found its part
abbrev pub rest_if : Bool → List ℕ → Option (List ℕ)
rest_if b rest = if b then Some rest else None

-- Over these bytes the reader finds its part at the old place, as the result tells, and leaves off at the new one.
pub record Reads (past : List ℕ → Option (List ℕ)) (bytes : List ℕ) (old : RunningPlace) (is_found : Bool) (new : RunningPlace) : Type 0 where
  pub runs : RunsOver bytes new
  pub rest : past (ahead old) ≡ rest_if is_found (ahead new)
  pub forward : old.walk.offset ≤ new.walk.offset

-- Over these bytes the reader gives this kind of token at the old place, and leaves off at the new one, if it isn't the last.
pub record Gives (read : List ℕ → TokenKind × List ℕ) (bytes : List ℕ) (old : RunningPlace) (given : TokenKind) (new : RunningPlace) : Type 0 where
  pub runs : RunsOver bytes new
  pub kind : (read (ahead old)).0 ≡ given
  pub rest : is_last given ≡ false → (read (ahead old)).1 ≡ ahead new
  pub forward : old.walk.offset ≤ new.walk.offset
