-- Where the reading of a text began, and which place in the whole text a place in the rest is.
-- Source: this project's choice.
use Rattle.std.specs.Prelude.{◌≡◌, ℕ, ◌+◌, ◌<◌, ◌^◌, List, ◌++◌, length}
use Rattle.std.specs.Str.{IsCharBoundary}
use Rattle.graphql_tokens.specs.declared.pos.Pos.{Pos}
use Rattle.graphql_tokens.specs.tokens.Place.{place, place_after}
use Rattle.graphql_report.specs.declared.rests.ReadFrom.{ReadFrom}

-- the beginning of a text
abbrev pub top : ReadFrom
top = record { offset = 0; line = 1 }

-- a line begins after these characters: the one that is counted so
abbrev pub BeginsAfter : List ℕ → ReadFrom → Type 0
BeginsAfter front from = place_after front ≡ record { line = from.line; column = 1 }

-- the line begins at this offset of the text, before a character or at the end
abbrev pub BeginsAt : List ℕ → ReadFrom → Type 0
BeginsAt text from = IsCharBoundary text from.offset × (place text from.offset ≡ record { line = from.line; column = 1 })

-- these characters are so few that the number of each line and column among them takes 64 bits
abbrev pub AreCounted : List ℕ → Type 0
AreCounted text = length text + 1 < 2 ^ 64

-- one spot: where the second part of a text begins with this line, its place in that part, and its place in the whole text
abbrev pub IsMoved : ReadFrom → Pos → Pos → Type 0
IsMoved from in_rest in_text = (front here : List ℕ) → BeginsAfter front from → AreCounted (front ++ here) → in_rest ≡ place_after here → in_text ≡ place_after (front ++ here)
