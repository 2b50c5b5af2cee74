-- Number literals: the set of their texts, and what may not follow one.
-- Source: GraphQL October 2021, section 2.9.1 (Int Value) and section 2.9.2 (Float Value).
use Rattle.std.specs.Prelude.{◌≡◌, ℕ, Bool, true, false, ◌⊎◌, ◌||◌, ◌==◌, List, [], ◌∷◌, ◌++◌}
use Rattle.std.specs.Char.{is_ascii_digit}
use Rattle.std.specs.List.{AllByRecursion}
use Rattle.std.specs.Str.{byte}
use Rattle.graphql_tokens.specs.tokens.Classes.{is_name_char}

-- any number of digits
abbrev pub AllDigits : List ℕ → Type 0
AllDigits w = AllByRecursion (λ c. is_ascii_digit c ≡ true) w

-- one digit or more
abbrev pub AreDigits : List ℕ → Type 0
AreDigits [] = ⊥
AreDigits (c ∷ cs) = (is_ascii_digit c ≡ true) × AllDigits cs

-- `-`
abbrev pub is_minus : ℕ → Bool
is_minus c = c == byte "-"

-- `+` or `-`
abbrev pub is_sign : ℕ → Bool
is_sign c = c == byte "+" || c == byte "-"

-- `e` or `E`
abbrev pub is_e : ℕ → Bool
is_e c = c == byte "e" || c == byte "E"

-- nothing, or one such character
abbrev pub IsOptional : (ℕ → Bool) → List ℕ → Type 0
IsOptional p w = (w ≡ []) ⊎ ((c : ℕ) × (p c ≡ true) × (w ≡ c ∷ []))

-- `0` alone, or digits of which the first is another
abbrev pub IsWhole : List ℕ → Type 0
IsWhole [] = ⊥
IsWhole (c ∷ cs) = ((c ≡ byte "0") × (cs ≡ [])) ⊎ ((c == byte "0") ≡ false) × (is_ascii_digit c ≡ true) × AllDigits cs

-- nothing, or `.` and one digit or more
abbrev pub IsFraction : List ℕ → Type 0
IsFraction [] = Unit {0}
IsFraction (c ∷ cs) = (c ≡ byte ".") × AreDigits cs

-- nothing, or `e` or `E`, then an optional sign, then one digit or more
abbrev pub IsExponent : List ℕ → Type 0
IsExponent [] = Unit {0}
IsExponent (c ∷ cs) = (is_e c ≡ true) × ((sign : List ℕ) × (digits : List ℕ) × (cs ≡ sign ++ digits) × IsOptional is_sign sign × AreDigits digits)

-- an optional minus, a whole part, an optional fraction and an optional exponent
abbrev pub IsNumber : List ℕ → Type 0
IsNumber w =
    (sign : List ℕ) × (whole : List ℕ) × (fraction : List ℕ) × (exponent : List ℕ)
    × (w ≡ sign ++ (whole ++ (fraction ++ exponent))) × IsOptional is_minus sign × IsWhole whole × IsFraction fraction × IsExponent exponent

-- what may not follow a number: a digit, a letter, `_` or `.`
abbrev pub forbids_number : ℕ → Bool
forbids_number c = is_name_char c || c == byte "."
