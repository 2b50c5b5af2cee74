-- Classes of bytes, of which runs are passed in one step.
use Rattle.std.specs.Prelude.{◌≡◌, ◌<◌, ℕ, Bool, true, not, if◌then◌else◌, ◌||◌, ◌&&◌, ◌==◌, nat_lt, List, [], ◌∷◌, slice_index}
use Rattle.std.specs.Char.{is_ascii_digit}
use Rattle.std.specs.Str.{byte}
use Rattle.graphql_tokens.specs.tokens.Classes.{is_ignored, is_name_start, is_name_char, is_punct}
use Rattle.graphql_tokens.specs.tokens.Strings.{is_plain}
use Rattle.graphql_tokens.specs.declared.lexer.class.CharClass.{CharClass}
use Rattle.graphql_tokens.specs.declared.lexer.class.CharClass.TheVariants.{EndsIgnored, NameStart, NameChar, Punct, Digit, Plain, NumberStart, PlainAscii}
use Rattle.graphql_tokens.specs.tokens.Place.{is_in_line}

-- the byte isn't of the class
abbrev pub is_outside : (ℕ → Bool) → ℕ → Bool
is_outside has b = not (has b)

-- a class of ASCII characters that end no line
abbrev pub IsWithinLines : (ℕ → Bool) → Type 0
IsWithinLines has = (c : ℕ) → has c ≡ true → (c < 128) × (is_in_line c ≡ true)

-- what follows the characters of the class at the front
abbrev pub past_class : (ℕ → Bool) → List ℕ → List ℕ
past_class has [] = []
past_class has (c ∷ cs) = if has c then past_class has cs else c ∷ cs

-- U+FEFF stands at the front of these bytes
abbrev pub begins_mark : List ℕ → Bool
begins_mark text = slice_index text 0 == 0xEF && slice_index text 1 == 0xBB && slice_index text 2 == 0xBF

-- a digit or a minus
abbrev pub begins_number : ℕ → Bool
begins_number b = is_ascii_digit b || b == byte "-"

-- the bytes of each class of the lexer's table
abbrev pub has_byte : CharClass → ℕ → Bool
has_byte EndsIgnored b = nat_lt b 128 && not (is_ignored b || b == byte "#")
has_byte NameStart b = is_name_start b
has_byte NameChar b = is_name_char b
has_byte Punct b = is_punct b
has_byte Digit b = is_ascii_digit b
has_byte Plain b = is_plain b
has_byte NumberStart b = begins_number b
has_byte PlainAscii b = is_plain b && nat_lt b 128

-- the bit of each class in the table
abbrev pub bit_of : CharClass → ℕ
bit_of EndsIgnored = 1
bit_of NameStart = 2
bit_of NameChar = 4
bit_of Punct = 8
bit_of Digit = 16
bit_of Plain = 32
bit_of NumberStart = 64
bit_of PlainAscii = 128
