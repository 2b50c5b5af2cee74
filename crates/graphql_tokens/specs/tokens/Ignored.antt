-- Ignored texts, as sets: what may stand between tokens.
-- Source: GraphQL October 2021, section 2.1.7 (Ignored Tokens), and section 2.1.4 (Comments). It departs in one thing: a
-- comment may hold any character but a line's end, where October 2021 allows tabs and U+0020 to U+FFFF alone.
use Rattle.std.specs.Prelude.{◌≡◌, ℕ, true, false, ◌⊎◌, List, [], ◌∷◌, ◌++◌}
use Rattle.std.specs.List.{AllByRecursion, concat}
use Rattle.std.specs.Str.{byte}
use Rattle.graphql_tokens.specs.tokens.Place.{is_line_end}
use Rattle.graphql_tokens.specs.tokens.Classes.{is_ignored}

-- what may follow a comment: a line's end, or the text's
abbrev pub EndsLine : List ℕ → Type 0
EndsLine [] = Unit {0}
EndsLine (c ∷ cs) = is_line_end c ≡ true

-- `#`, and characters that end no line
abbrev pub IsComment : List ℕ → Type 0
IsComment [] = ⊥
IsComment (c ∷ body) = (c ≡ byte "#") × AllByRecursion (λ d. is_line_end d ≡ false) body

-- an ignored character, or a comment, after which its line ends
abbrev pub IsPiece : List ℕ → List ℕ → Type 0
IsPiece piece rest = ((c : ℕ) × (piece ≡ c ∷ []) × (is_ignored c ≡ true)) ⊎ (IsComment piece × EndsLine rest)

-- these pieces are ignored text, if the rest follows them
abbrev pub AreIgnored : List (List ℕ) → List ℕ → Type 0
AreIgnored [] rest = Unit {0}
AreIgnored (piece ∷ pieces) rest = IsPiece piece (concat pieces ++ rest) × AreIgnored pieces rest
