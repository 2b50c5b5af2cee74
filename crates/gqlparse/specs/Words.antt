-- The arguments that the program serves. Each is the list of its bytes, and the program's name is none of them.
use Rattle.std.specs.Prelude.{◌≡◌, ◌⊎◌, ℕ, List, [], ◌∷◌, codes}

-- one word, `query` or `schema`
abbrev pub IsServed : List (List ℕ) → Type 0
IsServed words = (words ≡ codes "query" ∷ []) ⊎ (words ≡ codes "schema" ∷ [])

-- one word that asks how the program is called
abbrev pub AsksForHelp : List (List ℕ) → Type 0
AsksForHelp words = (words ≡ codes "--help" ∷ []) ⊎ (words ≡ codes "-h" ∷ [])
