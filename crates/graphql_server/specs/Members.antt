-- Members of a message by their paths, and the changes that a message contains.
-- Source: Language Server Protocol 3.17, "Position", "Range" and "DidChangeTextDocumentParams". That a range that is null is missing
-- is this project's choice.
use Rattle.std.specs.Prelude.{◌≡◌, ◌⊎◌, ⊤, ℕ, ◌==◌, List, [], ◌∷◌, Option, None, Some, MatchOption, option_and_then, if◌then◌else◌, codes}
use Rattle.std.specs.Str.Parse.{IsNumeral, digits_value, without_leading_plus}
use Rattle.json.specs.Json.{Json, null, number, string, Items, no_items, item}
use Rattle.json.specs.Find.{get, as_array}
use Rattle.text_edits.specs.declared.Position.{Position}
use Rattle.text_edits.specs.declared.Range.{Range}
use Rattle.graphql_server.specs.declared.texts.Change.{Change}

abbrev pub onto_first_name : ℕ → List (List ℕ) → List (List ℕ)
onto_first_name c [] = (c ∷ []) ∷ []
onto_first_name c (name ∷ names) = (c ∷ name) ∷ names

-- the names of a path, which dots part
abbrev pub names : List ℕ → List (List ℕ)
names [] = [] ∷ []
names (c ∷ cs) = if c == 46 then [] ∷ names cs else onto_first_name c (names cs)

-- the value of the member of the first name, in that the one of the second, and so on
abbrev pub value_at : List (List ℕ) → Json → Option Json
value_at [] json = Some json
value_at (name ∷ names) json = option_and_then (value_at names) (get name json)

-- there is no value at the path, or null
abbrev pub IsLeftOut : Json → List (List ℕ) → Type 0
IsLeftOut json names = (value_at names json ≡ None) ⊎ (value_at names json ≡ Some null)

-- a number of JSON is this number, which isn't negative
pub record IsSize (json : Json) (size : ℕ) : Type 0 where
  pub digits : List ℕ
  pub is : json ≡ number digits
  pub numeral : IsNumeral 10 (without_leading_plus digits)
  pub value : size ≡ digits_value 10 (without_leading_plus digits)

-- the value at the path is this number
abbrev pub HasSize : Json → List (List ℕ) → ℕ → Type 0
HasSize json names size = MatchOption (value_at names json) ⊥ (λ value. IsSize value size)

-- the value at the path is this text
abbrev pub HasText : Json → List (List ℕ) → List ℕ → Type 0
HasText json names text = value_at names json ≡ Some (string text)

-- the start or the end of the range of a change is this position
abbrev pub HasEnd : Json → List ℕ → Position → Type 0
HasEnd change end position =
    HasSize change (codes "range" ∷ end ∷ codes "line" ∷ []) position.line
    × HasSize change (codes "range" ∷ end ∷ codes "character" ∷ []) position.character

-- the range of a change is this one, or is missing
abbrev pub HasRange : Json → Option Range → Type 0
HasRange change None = IsLeftOut change (codes "range" ∷ [])
HasRange change (Some range) = HasEnd change (codes "start") range.start × HasEnd change (codes "end") range.end

-- "TextDocumentContentChangeEvent"
pub record IsChangeIn (json : Json) (change : Change) : Type 0 where
  pub range : HasRange json change.range
  pub text : HasText json (codes "text" ∷ []) change.text.now

-- each item of the list is a change, in their order
abbrev pub AreItems : Items → List Change → Type 0
AreItems no_items [] = ⊤
AreItems no_items (change ∷ changes) = ⊥
AreItems (item json items) [] = ⊥
AreItems (item json items) (change ∷ changes) = IsChangeIn json change × AreItems items changes

-- the changes that a message contains
abbrev pub AreChangesIn : Json → List Change → Type 0
AreChangesIn message changes =
    MatchOption (option_and_then as_array (value_at (codes "params" ∷ codes "contentChanges" ∷ []) message)) ⊥ (λ items. AreItems items changes)
