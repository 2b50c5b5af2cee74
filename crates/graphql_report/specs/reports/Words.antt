-- How a report names the refused token, and what is expected in its place.
-- Source: this project's choice.
use Rattle.std.specs.Prelude.{ℕ, nat_lt, Bool, false, not, ◌&&◌, ◌||◌, ◌==◌, if◌then◌else◌, List, [], ◌∷◌, ◌++◌, length, map, take, codes}
use Rattle.std.specs.Char.{is_control}
use Rattle.std.specs.Int.{is_in_range}
use Rattle.std.specs.List.{list_any}
use Rattle.std.specs.Str.{byte, chars, bytes_eq, encode_utf8_all}
use Rattle.graphql_tokens.specs.declared.lexer.TokenKind.{TokenKind}
use Rattle.graphql_tokens.specs.declared.lexer.TokenKind.TheVariants.{Number, String, Block, End}
use Rattle.graphql_tokens.specs.tokens.Kinds.{is_name}
use Rattle.graphql_tokens.specs.tokens.Token.{Bare}
use Rattle.graphql_report.specs.declared.fronts.Language.{Language}
use Rattle.graphql_report.specs.declared.fronts.Language.TheVariants.{Requests, Schemas}
use Rattle.graphql_report.specs.reports.Expected.{quoted, name_name, value_name, end_name}

-- ---- the token

-- a terminal takes the character as an order to write the other way round
abbrev pub turns_text : ℕ → Bool
turns_text c = c == 0x61C || c == 0x200E || c == 0x200F || is_in_range 0x202A 0x202E c || is_in_range 0x2066 0x2069 c

-- what is shown for a character: U+FFFD for a control character but a tab, and for one that turns the text
abbrev pub shown_for : ℕ → ℕ
shown_for c = if (is_control c && not (c == byte "\t")) || turns_text c then 0xFFFD else c

-- the first thirty characters as they are shown, and dots if there are more
abbrev pub cut : List ℕ → List ℕ
cut text = encode_utf8_all (map shown_for (take 30 (chars text))) ++ (if nat_lt 30 (length (chars text)) then codes "..." else [])

abbrev pub found_as : TokenKind → List ℕ → List ℕ
found_as End text = end_name
found_as Block text = codes "a block string"
found_as String text = codes "the string " ++ cut text
found_as Number text = codes "the number " ++ cut text
found_as other text = quoted (cut text)

-- what was found: a kind of token, and of most the first characters
abbrev pub found : Bare → List ℕ
found t = found_as t.kind t.spelling

-- ---- what is expected

-- one of the three names that no value of an enum has, where a name is expected in a schema file
abbrev pub is_no_enum_value : Language → List ℕ → List (List ℕ) → Bool
is_no_enum_value Requests text names = false
is_no_enum_value Schemas text names = (bytes_eq text (codes "true") || bytes_eq text (codes "false") || bytes_eq text (codes "null")) && list_any (λ name. bytes_eq name name_name) names

-- what is said after something that is expected, where just what was found can't stand for it
abbrev pub exception : Bare → List ℕ → List ℕ
exception t name =
    if is_name t.kind && (bytes_eq name name_name || bytes_eq name value_name) then codes " other than " ++ quoted t.spelling
    else if bytes_eq t.spelling (codes "$") && bytes_eq name value_name then codes " without variables"
    else []

-- the second and later ones
abbrev pub or_others : (List ℕ → List ℕ) → List (List ℕ) → List ℕ
or_others told [] = []
or_others told (name ∷ []) = codes " or " ++ told name
or_others told (name ∷ second ∷ more) = codes ", " ++ told name ++ or_others told (second ∷ more)

-- all of what is expected, as `, expected a name, "..." or "}"`
abbrev pub expected_of : (List ℕ → List ℕ) → List (List ℕ) → List ℕ
expected_of told [] = []
expected_of told (name ∷ more) = codes ", expected " ++ told name ++ or_others told more

abbrev pub expected : Language → Bare → List (List ℕ) → List ℕ
expected language t names = expected_of (λ name. name ++ (if is_no_enum_value language t.spelling names then [] else exception t name)) names
