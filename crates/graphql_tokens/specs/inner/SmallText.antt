-- What a small text keeps: its bytes in place, or in a block of its own.
use Rattle.std.specs.Prelude.{ℕ, ◌<◌, ◌≤◌, ◌≡◌, List, length, take, string_bytes, IsUtf8}
use Rattle.graphql_tokens.specs.declared.small_text.Place.{Place}
use Rattle.graphql_tokens.specs.declared.small_text.Place.TheVariants.{Short, Long}

-- the bytes of the text, wherever it lies
abbrev pub text_bytes : Place → List ℕ
text_bytes (Short len bytes) = take len bytes
text_bytes (Long text) = string_bytes text.value

-- a text that lies in a block of its own is longer than 22 bytes
abbrev pub IsPlacedByLength : Place → Type 0
IsPlacedByLength (Short len bytes) = (len ≤ 22) × (length bytes ≡ 22) × ∥ IsUtf8 (take len bytes) ∥₁
IsPlacedByLength (Long text) = 22 < length (string_bytes text.value)
