-- The integer that a number literal stands for, where it has no fraction and no exponent.
-- Source: GraphQL October 2021, section 2.9.1 (Int Value). That `-0` is 0, and the bounds, are this project's choice.
use Rattle.std.specs.Prelude.{◌≡◌, ℕ, ◌+◌, ◌-◌, ◌*◌, ◌^◌, List, [], ◌∷◌, ◌++◌, length, ℤ, pos, neg_ℤ}
use Rattle.std.specs.Str.{byte}
use Rattle.graphql_tokens.specs.tokens.Numbers.{IsOptional, is_minus, IsWhole}

-- what decimal digits write: each digit times the power of ten of its place
abbrev pub decimal_value : List ℕ → ℕ
decimal_value [] = 0
decimal_value (d ∷ ds) = (d - byte "0") * 10 ^ length ds + decimal_value ds

-- a number under no sign, or under a minus
abbrev pub signed : List ℕ → ℕ → ℤ
signed [] n = pos n
signed (minus ∷ rest) n = neg_ℤ (pos n)

-- the literal is an optional minus and whole digits, and the value is theirs under that sign
pub record IsIntegerOf (literal : List ℕ) (value : ℤ) : Type 0 where
  pub sign : List ℕ
  pub whole : List ℕ
  pub spelled : literal ≡ sign ++ whole
  pub sign_is : IsOptional is_minus sign
  pub whole_is : IsWhole whole
  pub value_is : value ≡ signed sign (decimal_value whole)
