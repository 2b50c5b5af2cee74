-- What follows a string or a block string at the front of a text, as a function. Both recursions count
-- down the characters that are left of a unit.
use Rattle.std.specs.Prelude.{◌≡◌, ◌≤◌, ◌<◌, ℕ, zero, suc, ◌-◌, if◌then◌else◌, ◌==◌, List, [], ◌∷◌, ◌++◌, drop, Option, Some, None}
use Rattle.std.specs.Str.{byte}
use Rattle.graphql_tokens.specs.tokens.Strings.{is_plain}
use Rattle.graphql_tokens.specs.tokens.BlockText.{begins_quotes}
use Rattle.graphql_tokens.specs.tokens.Blocks.{closes}
use Rattle.graphql_tokens.specs.inner.Escapes.{escape_at}

-- an escape, of which the first character is passed
abbrev pub past_unit : Option (ℕ × ℕ) → (ℕ → Option (List ℕ)) → Option (List ℕ)
past_unit None f = None
past_unit (Some unit) f = f (unit.1 - 1)

abbrev pub past_string_from : ℕ → List ℕ → Option (List ℕ)
past_string_from left [] = None
past_string_from (suc left) (c ∷ cs) = past_string_from left cs
past_string_from zero (c ∷ cs) =
    if is_plain c then past_string_from 0 cs
    else (if c == byte "\"" then Some cs else past_unit (escape_at (c ∷ cs)) (λ n. past_string_from n cs))

-- after the opening quote
unfoldable pub past_string : List ℕ → Option (List ℕ)
past_string text = past_string_from 0 text

abbrev pub past_block_from : ℕ → List ℕ → Option (List ℕ)
past_block_from left [] = None
past_block_from (suc left) (c ∷ cs) = past_block_from left cs
past_block_from zero (c ∷ cs) =
    if closes (c ∷ cs) then Some (drop 2 cs) else past_block_from (if begins_quotes (c ∷ cs) then 3 else 0) cs

-- after the opening quotes
unfoldable pub past_block : List ℕ → Option (List ℕ)
past_block text = past_block_from 0 text

abbrev pub quotes : ℕ → List ℕ
quotes zero = []
quotes (suc n) = byte "\"" ∷ quotes n

-- the text begins with another character, or ends
abbrev pub NoQuote : List ℕ → Type 0
NoQuote [] = Unit {0}
NoQuote (c ∷ cs) = c ≡ byte "\"" → ⊥

-- n quotes, at most three, and then the rest, which begins with no quote if they are fewer
pub record IsRunOfQuotes (n : ℕ) (text rest : List ℕ) : Type 0 where
  pub most : n ≤ 3
  pub passed : text ≡ quotes n ++ rest
  pub stops : n < 3 → NoQuote rest
