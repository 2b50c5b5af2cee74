-- What the content of a string is made of, and what it means.
-- Source: GraphQL October 2021, section 2.9.4 (String Value). It departs in three things. A string may hold any character
-- but `"`, `\` and line ends, where October 2021 allows tabs and U+0020 to U+FFFF alone. An escape of four digits that
-- names a surrogate is none, where October 2021 allows it. And the current edition has two escapes more: `\u{..}`, and
-- two escapes of four digits that name the halves of a surrogate pair.
use Rattle.std.specs.Prelude.{◌≡◌, ◌≤◌, ℕ, ◌+◌, ◌-◌, ◌*◌, ◌^◌, Bool, true, not, ◌||◌, ◌==◌, ◌⊎◌, List, [], ◌∷◌, ◌++◌, length, codes}
use Rattle.std.specs.Char.{IsScalar, is_ascii_hexdigit, digit_value}
use Rattle.std.specs.List.{AllByRecursion, concat}
use Rattle.std.specs.Str.{byte}
use Rattle.graphql_tokens.specs.tokens.Edition.{Edition, Former, Current}

-- ---- plain characters

-- a character that stands for itself: none of `"`, `\`, line feed and carriage return
abbrev pub is_plain : ℕ → Bool
is_plain c = not (c == byte "\"" || c == byte "\\" || c == byte "\n" || c == byte "\r")

abbrev pub IsPlain : List ℕ → ℕ → Type 0
IsPlain unit c = (unit ≡ c ∷ []) × (is_plain c ≡ true)

-- ---- a backslash and a letter

-- the letter after the backslash, and the character for which the two stand
pub data Escape : ℕ → ℕ → Type 0 where
  quote : Escape (byte "\"") (byte "\"")
  backslash : Escape (byte "\\") (byte "\\")
  slash : Escape (byte "/") (byte "/")
  backspace : Escape (byte "b") (byte "\u{8}")
  form_feed : Escape (byte "f") (byte "\u{c}")
  line_feed : Escape (byte "n") (byte "\n")
  carriage_return : Escape (byte "r") (byte "\r")
  tab : Escape (byte "t") (byte "\t")

abbrev pub IsEscape : List ℕ → ℕ → Type 0
IsEscape unit c = (letter : ℕ) × (unit ≡ byte "\\" ∷ letter ∷ []) × Escape letter c

-- ---- numbers in hexadecimal digits of either case

abbrev pub AreHexDigits : List ℕ → Type 0
AreHexDigits digits = AllByRecursion (λ d. is_ascii_hexdigit d ≡ true) digits

-- what they write: each digit times the power of sixteen of its place
abbrev pub hex_value : List ℕ → ℕ
hex_value [] = 0
hex_value (d ∷ ds) = digit_value d * 16 ^ length ds + hex_value ds

-- `\u` and four digits, whose number is n
abbrev pub IsFourDigits : List ℕ → ℕ → Type 0
IsFourDigits unit n = (digits : List ℕ) × (unit ≡ codes "\\u" ++ digits) × (length digits ≡ 4) × AreHexDigits digits × (hex_value digits ≡ n)

-- `\u` and four digits that name a character; D800 to DFFF, the surrogates, are numbers of none
abbrev pub IsFourDigitEscape : List ℕ → ℕ → Type 0
IsFourDigitEscape unit c = IsFourDigits unit c × IsScalar c

-- `\u{`, one digit or more, and `}`, where the digits name a character
abbrev pub IsBracedEscape : List ℕ → ℕ → Type 0
IsBracedEscape unit c = (digits : List ℕ) × (unit ≡ codes "\\u{" ++ (digits ++ codes "}")) × (1 ≤ length digits) × AreHexDigits digits × (hex_value digits ≡ c) × IsScalar c

-- ---- surrogate pairs

abbrev pub IsHighHalf : ℕ → Type 0
IsHighHalf n = (0xD800 ≤ n) × (n ≤ 0xDBFF)

abbrev pub IsLowHalf : ℕ → Type 0
IsLowHalf n = (0xDC00 ≤ n) × (n ≤ 0xDFFF)

-- two escapes of four digits, the first a high half and the second a low one
abbrev pub IsPair : List ℕ → ℕ → Type 0
IsPair unit c =
    (first : List ℕ) × (second : List ℕ) × (high : ℕ) × (low : ℕ)
    × (unit ≡ first ++ second) × IsFourDigits first high × IsFourDigits second low
    × IsHighHalf high × IsLowHalf low × (c ≡ 0x10000 + (high - 0xD800) * 0x400 + (low - 0xDC00))

-- ---- units and contents

-- the two escapes that the former edition lacks
abbrev pub IsCurrentEscape : Edition → List ℕ → ℕ → Type 0
IsCurrentEscape Former unit c = ⊥
IsCurrentEscape Current unit c = IsBracedEscape unit c ⊎ IsPair unit c

-- in this edition the unit stands for the character
abbrev pub UnitMeans : Edition → List ℕ → ℕ → Type 0
UnitMeans edition unit c = IsPlain unit c ⊎ IsEscape unit c ⊎ IsFourDigitEscape unit c ⊎ IsCurrentEscape edition unit c

-- the units stand for the characters, one for one
abbrev pub UnitsMean : Edition → List (List ℕ) → List ℕ → Type 0
UnitsMean edition [] [] = Unit {0}
UnitsMean edition [] (c ∷ cs) = ⊥
UnitsMean edition (u ∷ us) [] = ⊥
UnitsMean edition (u ∷ us) (c ∷ cs) = UnitMeans edition u c × UnitsMean edition us cs

-- the content is units joined, and the value is what they stand for
abbrev pub StringMeans : Edition → List ℕ → List ℕ → Type 0
StringMeans edition content value = (units : List (List ℕ)) × (content ≡ concat units) × UnitsMean edition units value

-- the content of a string: it has a meaning
abbrev pub IsContent : Edition → List ℕ → Type 0
IsContent edition content = (value : List ℕ) × StringMeans edition content value

-- a quote, a content, a quote
abbrev pub IsString : Edition → List ℕ → Type 0
IsString edition w = (content : List ℕ) × (w ≡ codes "\"" ++ (content ++ codes "\"")) × IsContent edition content
