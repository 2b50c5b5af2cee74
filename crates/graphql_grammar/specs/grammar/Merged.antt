-- The fields of an object, from the pairs of names and values as they are written.
-- Source: this project's choice, as the Rust crate's. GraphQL October 2021, section 5.6.3 forbids a repeated name, as
-- a rule of validation; here it has the value with which it comes last.
use Rattle.std.specs.Prelude.{ℕ, Bool, cond, List, [], ◌∷◌}
use Rattle.std.specs.Str.{bytes_eq}

-- the pair has this name
abbrev pub has_name : {A : Type 0} → List ℕ → List ℕ × A → Bool
has_name name pair = bytes_eq pair.0 name

-- the pairs with another name
abbrev pub without : {A : Type 0} → List ℕ → List (List ℕ × A) → List (List ℕ × A)
without name [] = []
without name (pair ∷ pairs) = cond (has_name name pair) (without name pairs) (pair ∷ without name pairs)

-- the value of the last pair of this name, or else this one
abbrev pub last_value : {A : Type 0} → List ℕ → A → List (List ℕ × A) → A
last_value name value [] = value
last_value name value (pair ∷ pairs) = last_value name (cond (has_name name pair) pair.1 value) pairs

-- the names in the order in which each comes first, with the value with which it comes last
abbrev pub merged : {A : Type 0} → List (List ℕ × A) → List (List ℕ × A)
merged [] = []
merged (pair ∷ pairs) = (pair.0, last_value pair.0 pair.1 pairs) ∷ without pair.0 (merged pairs)
