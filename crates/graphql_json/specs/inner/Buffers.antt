-- Texts that are copied as they are, and places and what opens a node as texts.
use Rattle.std.specs.Prelude.{◌≡◌, ℕ, ◌+◌, List, [], ◌∷◌, ◌++◌, length, Result, MatchResult, Bool, Option, Some, None, codes, decimal}
use Rattle.std.specs.Bool.{OnTrue, OnFalse}
use Rattle.graphql_parser.specs.types.Pos.{Pos}
use Rattle.json.specs.Filled.{Placed}
use Rattle.json.specs.Print.{escape}
use Rattle.json.specs.Written.{PlainBetween}

-- a text without escapes is copied to a place in a row of bytes, or nothing is
pub record CopiesPlain (is_plain : Bool) (old new : List ℕ) (at : ℕ) (text : List ℕ) : Type 0 where
  pub copied : OnTrue is_plain (Placed old new at text (at + length text))
  pub plain : OnTrue is_plain (PlainBetween text 0 (length text))
  pub left : OnFalse is_plain (new ≡ old)

-- All bytes are added if the answer is true, and else none is. Then the text between them is written as it is.
abbrev pub PutsPlain : {E : Type 0} → Result Bool E → List ℕ → List ℕ → List ℕ → List ℕ → Type 0
PutsPlain result old new text added = MatchResult result (λ is_plain. OnTrue is_plain ((new ≡ old ++ added) × (escape text ≡ text)) × OnFalse is_plain (new ≡ old)) (λ _. new ≡ old)

-- the text of a place, as members after others
abbrev pub pos_text : Option Pos → List ℕ
pos_text None = []
pos_text (Some pos) = codes ",\"line\":" ++ (decimal pos.line ++ (codes ",\"column\":" ++ decimal pos.column))

-- the text that opens a node: its kind, and its place
abbrev pub opening_text : List ℕ → Option Pos → List ℕ
opening_text kind pos = codes "{\"kind\":\"" ++ (kind ++ (34 ∷ pos_text pos))
