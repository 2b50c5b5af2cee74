-- The escape at the front of a text, as a function: the character for which it stands, and how many characters it has.
-- `Contents.antt` says what ties it to the relation of `tokens/Strings.antt`.
use Rattle.std.specs.Prelude.{ℕ, ◌+◌, ◌-◌, ◌*◌, if◌then◌else◌, ◌&&◌, ◌==◌, nat_le, min, List, [], ◌∷◌, length, take, drop, slice_index, Option, Some, None}
use Rattle.std.specs.Char.{is_ascii_hexdigit}
use Rattle.std.specs.Str.{byte}
use Rattle.std.specs.List.{list_all, prefix_len}
use Rattle.graphql_tokens.specs.tokens.Strings.{hex_value}
use lib.Utf8.{scalar}

-- the letters that may follow a backslash, and what each stands for
abbrev pub letters : List (ℕ × ℕ)
letters =
    (byte "\"", byte "\"") ∷ (byte "\\", byte "\\") ∷ (byte "/", byte "/") ∷ (byte "b", byte "\u{8}")
    ∷ (byte "f", byte "\u{c}") ∷ (byte "n", byte "\n") ∷ (byte "r", byte "\r") ∷ (byte "t", byte "\t") ∷ []

-- what stands beside this in the table
abbrev pub value_in : List (ℕ × ℕ) → ℕ → Option ℕ
value_in [] c = None
value_in ((letter, value) ∷ more) c = if c == letter then Some value else value_in more c

abbrev pub letter_value : ℕ → Option ℕ
letter_value c = value_in letters c

-- the number of these digits; all past the characters are one, the first
abbrev pub hex_number : List ℕ → Option ℕ
hex_number digits = if list_all is_ascii_hexdigit digits then Some (min (hex_value digits) 0x110000) else None

abbrev pub four_digits : List ℕ → Option ℕ
four_digits text = if nat_le 4 (length text) then hex_number (take 4 text) else None

-- the character of a high half and a low one
abbrev pub pair_value : ℕ → ℕ → Option ℕ
pair_value high low =
    if nat_le 0xD800 high && nat_le high 0xDBFF && nat_le 0xDC00 low && nat_le low 0xDFFF then Some (0x10000 + (high - 0xD800) * 0x400 + (low - 0xDC00)) else None

abbrev pub scalar_of : ℕ → Option ℕ
scalar_of n = if scalar n then Some n else None

abbrev pub with_len : ℕ → Option ℕ → Option (ℕ × ℕ)
with_len n None = None
with_len n (Some c) = Some (c, n)

-- so many digits after `\u{`, of this number
abbrev pub braced_by : ℕ → Option ℕ → Option (ℕ × ℕ)
braced_by n None = None
braced_by n (Some number) = with_len (n + 4) (scalar_of number)

-- after `\u{`
abbrev pub braced_at : List ℕ → Option (ℕ × ℕ)
braced_at text =
    let n = prefix_len is_ascii_hexdigit text in
    if n == 0 then None else (if slice_index text n == byte "}" then braced_by n (hex_number (take n text)) else None)

-- after a high half
abbrev pub low_half_at : List ℕ → Option ℕ
low_half_at text = if slice_index text 0 == byte "\\" && slice_index text 1 == byte "u" then four_digits (drop 2 text) else None

abbrev pub pair_with : ℕ → Option ℕ → Option (ℕ × ℕ)
pair_with high None = None
pair_with high (Some low) = with_len 12 (pair_value high low)

-- after the first half of a pair
abbrev pub pair_at : ℕ → List ℕ → Option (ℕ × ℕ)
pair_at high after = pair_with high (low_half_at after)

-- after `\u` and four digits: their number, and the character of it, if there is one
abbrev pub numbered_by : ℕ → Option ℕ → List ℕ → Option (ℕ × ℕ)
numbered_by n None after = pair_at n after
numbered_by n (Some c) after = Some (c, 6)

abbrev pub numbered_at : Option ℕ → List ℕ → Option (ℕ × ℕ)
numbered_at None after = None
numbered_at (Some n) after = numbered_by n (scalar_of n) after

-- after `\u`
abbrev pub number_at : List ℕ → Option (ℕ × ℕ)
number_at text = if slice_index text 0 == byte "{" then braced_at (drop 1 text) else numbered_at (four_digits text) (drop 4 text)

unfoldable pub escape_at : List ℕ → Option (ℕ × ℕ)
escape_at text =
    if slice_index text 0 == byte "\\" then (if slice_index text 1 == byte "u" then number_at (drop 2 text) else with_len 2 (letter_value (slice_index text 1))) else None
