-- Words that stand for themselves in JSON, as the names of members and the kinds of nodes do.
use Rattle.std.specs.Prelude.{◌≡◌, ℕ, List, [], ◌∷◌, Bool, true, ◌&&◌}
use Rattle.json.specs.Run.{is_plain}

-- no byte needs an escape
abbrev pub is_word : List ℕ → Bool
is_word [] = true
is_word (byte ∷ bytes) = is_plain byte && is_word bytes

abbrev pub IsWord : List ℕ → Type 0
IsWord text = is_word text ≡ true
