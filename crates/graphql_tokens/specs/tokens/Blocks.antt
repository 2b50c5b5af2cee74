-- How block strings are spelled, as a set of texts.
-- Source: GraphQL October 2021, section 2.9.4 (String Value). It departs in one thing: a block string may hold any
-- character, where October 2021 allows tabs, line ends and U+0020 to U+FFFF alone.
use Rattle.std.specs.Prelude.{◌≡◌, ℕ, Bool, false, ◌⊎◌, ◌&&◌, ◌==◌, List, [], ◌∷◌, ◌++◌, slice_index, codes}
use Rattle.std.specs.List.{concat}
use Rattle.std.specs.Str.{byte}
use Rattle.graphql_tokens.specs.tokens.BlockText.{begins_quotes}

-- `"""` begins the text
abbrev pub closes : List ℕ → Bool
closes text = slice_index text 0 == byte "\"" && slice_index text 1 == byte "\"" && slice_index text 2 == byte "\""

-- `\"""`, or one character at which neither `"""` nor `\"""` begins, if the rest follows it
abbrev pub IsBlockUnit : List ℕ → List ℕ → Type 0
IsBlockUnit unit rest =
    (unit ≡ codes "\\\"\"\"")
    ⊎ ((c : ℕ) × (unit ≡ c ∷ []) × (closes (c ∷ rest) ≡ false) × (begins_quotes (c ∷ rest) ≡ false))

-- these units, if the rest follows them
abbrev pub AreBlockUnits : List (List ℕ) → List ℕ → Type 0
AreBlockUnits [] rest = Unit {0}
AreBlockUnits (unit ∷ units) rest = IsBlockUnit unit (concat units ++ rest) × AreBlockUnits units rest

-- three quotes, units, three quotes
abbrev pub IsBlock : List ℕ → Type 0
IsBlock w = (units : List (List ℕ)) × (w ≡ codes "\"\"\"" ++ (concat units ++ codes "\"\"\"")) × AreBlockUnits units (codes "\"\"\"")
