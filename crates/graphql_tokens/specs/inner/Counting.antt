-- What a counted place keeps.
use Rattle.std.specs.Prelude.{◌≡◌, length, take}
use Rattle.std.specs.Str.{chars}
use Rattle.graphql_tokens.specs.inner.Running.{IsRunning}
use Rattle.graphql_tokens.specs.declared.pos.counted.CountedPlace.{CountedPlace}

-- it has counted the characters before the offset
pub record IsCounting (a : CountedPlace) : Type 0 where
  pub running : IsRunning a.place
  pub counted : a.passed ≡ length (chars (take a.place.walk.offset a.place.walk.text.now))
