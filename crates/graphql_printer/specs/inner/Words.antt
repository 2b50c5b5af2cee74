-- Which texts are punctuators and names, which bytes need no escape, and tokens that are kept aside.
-- Source: GraphQL October 2021, sections 2.1.8 (Punctuators), 2.1.9 (Names) and 2.9.4 (String Value). That tokens are kept aside
-- from the first on that isn't spelled as its kind is, is this project's choice.
use Rattle.std.specs.Prelude.{◌≡◌, ℕ, Bool, false, not, ◌&&◌, ◌==◌, nat_lt, List, [], ◌∷◌, map, string_bytes}
use Rattle.std.specs.Char.{is_ascii_digit}
use Rattle.std.specs.List.{list_all}
use Rattle.std.specs.Str.{byte}
use Rattle.graphql_tokens.specs.tokens.Classes.{is_name_char, is_punct}
use Rattle.graphql_tokens.specs.tokens.Token.{Bare}
use Rattle.graphql_tokens.specs.declared.lexer.TokenKind.TheVariants.{Name}
use Rattle.graphql_printer.specs.declared.writer.Loose.{Loose}

-- a punctuator of one character, or three dots
abbrev pub is_sign : List ℕ → Bool
is_sign [] = false
is_sign (c ∷ []) = is_punct c && nat_lt c 128
is_sign (c ∷ d ∷ []) = false
is_sign (c ∷ d ∷ e ∷ []) = c == byte "." && (d == byte "." && e == byte ".")
is_sign (c ∷ d ∷ e ∷ f ∷ cs) = false

-- a name: letters, `_` and digits, and no digit first
abbrev pub is_word : List ℕ → Bool
is_word [] = false
is_word (c ∷ cs) = not (is_ascii_digit c) && list_all is_name_char (c ∷ cs)

-- No escape stands for the character that this byte begins. With C2 begin the control characters from U+0080 to U+009F, and some
-- others.
abbrev pub stays_in_string : ℕ → Bool
stays_in_string b = not (nat_lt b (byte " ")) && (not (b == byte "\"") && (not (b == byte "\\") && (not (b == 0x7F) && not (b == 0xC2))))

-- the bare tokens that are kept aside
abbrev pub loose_token : Loose → Bare
loose_token loose = record { kind = loose.kind; spelling = string_bytes loose.spelling }

abbrev pub loose_tokens : List Loose → List Bare
loose_tokens rest = map loose_token rest

-- the first of them, if there is one, is to be a name and is none
abbrev pub BeginsBadly : List Bare → Type 0
BeginsBadly [] = Unit {0}
BeginsBadly (b ∷ bs) = (b.kind ≡ Name) × (is_word b.spelling ≡ false)
