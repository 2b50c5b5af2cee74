-- What a report says of a fault, where a text goes on and no token begins: which words are told of which characters. There are words
-- for each text; `whole_number` and `nothing` are of texts with which no fault begins.
-- Source: this project's choice.
use Rattle.std.specs.Prelude.{◌≡◌, ◌≢◌, ◌≤◌, ◌-◌, ℕ, Bool, true, false, not, ◌&&◌, ◌||◌, ◌==◌, if◌then◌else◌, List, [], ◌∷◌, ◌++◌, length, map, replicate, codes}
use Rattle.std.specs.Char.{encode_utf8, is_ascii_digit, is_whitespace}
use Rattle.std.specs.Fmt.{digits}
use Rattle.std.specs.Int.{is_in_range}
use Rattle.std.specs.Str.{byte, encode_utf8_all}
use Rattle.graphql_tokens.specs.tokens.Numbers.{is_e, is_sign, IsExponent, IsFraction, IsOptional, IsWhole}
use Rattle.graphql_report.specs.reports.Escapes.{HasBadEscape}
use Rattle.graphql_report.specs.reports.Expected.{number_name, value_name}
use Rattle.graphql_report.specs.reports.Hints.{is_among}
use Rattle.graphql_report.specs.reports.Words.{shown_for}

-- whether a value is among what is expected
abbrev pub expects_value : List (List ℕ) → Bool
expects_value names = is_among names value_name || is_among names number_name

-- ---- numbers

-- whether a digit is next
abbrev pub begins_with_digit : List ℕ → Bool
begins_with_digit [] = false
begins_with_digit (c ∷ cs) = is_ascii_digit c

-- whether a zero is next, and a digit after it
abbrev pub has_leading_zero : List ℕ → Bool
has_leading_zero [] = false
has_leading_zero (c ∷ cs) = c == byte "0" && begins_with_digit cs

-- The words for what begins as a number without its minus sign, and is cut short or goes on as no number does.
pub data IsToldOfDigits (text told : List ℕ) : Type 0 where
  leading_zero : has_leading_zero text ≡ true → told ≡ codes "no digit may follow a 0 that begins a number" → IsToldOfDigits text told
  bare_point : (whole rest : List ℕ) → IsWhole whole → text ≡ whole ++ byte "." ∷ rest → begins_with_digit rest ≡ false → told ≡ codes "a digit has to follow the point of a number" → IsToldOfDigits text told
  bare_exponent : (whole fraction sign rest : List ℕ) (e : ℕ) → IsWhole whole → IsFraction fraction → is_e e ≡ true → IsOptional is_sign sign → text ≡ whole ++ (fraction ++ e ∷ (sign ++ rest)) → begins_with_digit rest ≡ false → told ≡ codes "the exponent of a number has to have a digit" → IsToldOfDigits text told
  follower : (whole fraction exponent rest : List ℕ) (c : ℕ) → IsWhole whole → IsFraction fraction → IsExponent exponent → text ≡ whole ++ (fraction ++ (exponent ++ c ∷ rest)) → told ≡ encode_utf8 c ++ codes " may not follow a number at once" → IsToldOfDigits text told
  whole_number : (whole fraction exponent : List ℕ) → IsWhole whole → IsFraction fraction → IsExponent exponent → text ≡ whole ++ (fraction ++ (exponent ++ [])) → told ≡ codes "this is no number" → IsToldOfDigits text told

-- ---- other characters

-- quotes that begin no string
abbrev pub is_other_quote : ℕ → Bool
is_other_quote c = c == byte "'" || c == byte "`" || c == 0x2018 || c == 0x2019 || c == 0x201C || c == 0x201D

-- a person can't see the character, or may take it for a blank
abbrev pub is_invisible : ℕ → Bool
is_invisible c = not (shown_for c == c) || is_whitespace c || is_in_range 0x200B 0x200D c

-- the number of a character in hexadecimal digits, of which there are four or more
abbrev pub number_of : ℕ → List ℕ
number_of c = replicate (4 - length (digits 16 true c)) (byte "0") ++ digits 16 true c

-- the words for a character that begins nothing; one that can't be seen is told by its number
pub data IsToldOfCharacter (c : ℕ) (told : List ℕ) : Type 0 where
  quote : is_other_quote c ≡ true → told ≡ encode_utf8 c ++ codes " begins no token (a string stands between double quotes)" → IsToldOfCharacter c told
  slash : c ≡ byte "/" → told ≡ codes "the character / begins no token (a comment begins with #)" → IsToldOfCharacter c told
  invisible : is_other_quote c ≡ false → is_invisible c ≡ true → told ≡ codes "the character U+" ++ (number_of c ++ codes " begins no token") → IsToldOfCharacter c told
  visible : is_other_quote c ≡ false → c ≢ byte "/" → is_invisible c ≡ false → told ≡ codes "the character " ++ (encode_utf8 c ++ codes " begins no token") → IsToldOfCharacter c told

-- ---- faults

-- whether a digit is next but for dots
abbrev pub digit_after_dots : List ℕ → Bool
digit_after_dots [] = false
digit_after_dots (c ∷ cs) = if c == byte "." then digit_after_dots cs else is_ascii_digit c

-- characters with words of their own
abbrev pub begins_other_row : Bool → ℕ → Bool
begins_other_row value c = c == byte "\"" || c == byte "." || c == byte "-" || (value && c == byte "+") || is_ascii_digit c

abbrev pub IsBlockQuoted : List ℕ → Type 0
IsBlockQuoted text = (rest : List ℕ) × (text ≡ codes "\"\"\"" ++ rest)

-- The words for the characters from a fault on; `value` says whether a value could stand there.
pub data IsToldOfFault (value : Bool) (text told : List ℕ) : Type 0 where
  bad_escape : (bad : HasBadEscape text) (escape rest : List ℕ) → byte "\\" ∷ bad.next ∷ bad.rest ≡ escape ++ rest → 1 ≤ length escape → length escape ≤ 12 → told ≡ codes "the escape " ++ (encode_utf8_all (map shown_for escape) ++ codes " in this string stands for no character") → IsToldOfFault value text told
  open_block : IsBlockQuoted text → told ≡ codes "this block string is not closed by \"\"\"" → IsToldOfFault value text told
  open_string : (rest : List ℕ) → text ≡ byte "\"" ∷ rest → ¬ (HasBadEscape text) → ¬ (IsBlockQuoted text) → told ≡ codes "this string is not closed before the end of its line" → IsToldOfFault value text told
  leading_point : (rest : List ℕ) → text ≡ byte "." ∷ rest → (value && digit_after_dots text) ≡ true → told ≡ codes "a digit has to stand before the point of a number" → IsToldOfFault value text told
  dots : (rest : List ℕ) → text ≡ byte "." ∷ rest → (value && digit_after_dots text) ≡ false → told ≡ codes "a spread is written with three dots" → IsToldOfFault value text told
  minus : (rest : List ℕ) → text ≡ byte "-" ∷ rest → value ≡ false → told ≡ codes "no name contains a minus sign" → IsToldOfFault value text told
  plus : (rest : List ℕ) → text ≡ byte "+" ∷ rest → value ≡ true → told ≡ codes "a number has no plus sign" → IsToldOfFault value text told
  lone_minus : (rest : List ℕ) → text ≡ byte "-" ∷ rest → value ≡ true → begins_with_digit rest ≡ false → told ≡ codes "a digit has to follow the minus sign" → IsToldOfFault value text told
  negative : (rest : List ℕ) → text ≡ byte "-" ∷ rest → value ≡ true → IsToldOfDigits rest told → IsToldOfFault value text told
  unsigned : begins_with_digit text ≡ true → IsToldOfDigits text told → IsToldOfFault value text told
  character : (c : ℕ) (rest : List ℕ) → text ≡ c ∷ rest → begins_other_row value c ≡ false → IsToldOfCharacter c told → IsToldOfFault value text told
  nothing : text ≡ [] → told ≡ codes "no token begins here" → IsToldOfFault value text told
