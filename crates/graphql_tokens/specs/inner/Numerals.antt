-- A number literal read from the front of a text: what is left after it, if there is one.
use Rattle.std.specs.Prelude.{ℕ, Bool, true, false, ◌==◌, if◌then◌else◌, List, [], ◌∷◌, Option, Some, None}
use Rattle.std.specs.Char.{is_ascii_digit}
use Rattle.std.specs.Str.{byte}
use Rattle.graphql_tokens.specs.tokens.Numbers.{is_minus, is_sign, is_e}
use Rattle.graphql_tokens.specs.inner.ByteClasses.{past_class}

abbrev pub past_optional : (ℕ → Bool) → List ℕ → List ℕ
past_optional p [] = []
past_optional p (c ∷ cs) = if p c then cs else c ∷ cs

abbrev pub past_some_digits : List ℕ → Option (List ℕ)
past_some_digits [] = None
past_some_digits (c ∷ cs) = if is_ascii_digit c then Some (past_class is_ascii_digit cs) else None

abbrev pub past_whole : List ℕ → Option (List ℕ)
past_whole [] = None
past_whole (c ∷ cs) = if c == byte "0" then Some cs else past_some_digits (c ∷ cs)

abbrev pub past_fraction : List ℕ → Option (List ℕ)
past_fraction [] = Some []
past_fraction (c ∷ cs) = if c == byte "." then past_some_digits cs else Some (c ∷ cs)

abbrev pub past_exponent : List ℕ → Option (List ℕ)
past_exponent [] = Some []
past_exponent (c ∷ cs) = if is_e c then past_some_digits (past_optional is_sign cs) else Some (c ∷ cs)

abbrev pub then_past : Option (List ℕ) → (List ℕ → Option (List ℕ)) → Option (List ℕ)
then_past None f = None
then_past (Some rest) f = f rest

-- what is left after the number at the front
abbrev pub past_numeral : List ℕ → Option (List ℕ)
past_numeral text = then_past (then_past (past_whole (past_optional is_minus text)) past_fraction) past_exponent

abbrev pub is_nothing : Option (List ℕ) → Bool
is_nothing None = false
is_nothing (Some []) = true
is_nothing (Some (c ∷ cs)) = false

-- the whole text is a number: nothing is left after one
abbrev pub is_numeral : List ℕ → Bool
is_numeral text = is_nothing (past_numeral text)
