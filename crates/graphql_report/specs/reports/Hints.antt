-- What a report may say after what is expected: why the token can't stand there, or what was meant.
-- Source: this project's choice.
use Rattle.std.specs.Prelude.{◌≡◌, ◌⊎◌, ℕ, Bool, true, false, not, ◌&&◌, ◌||◌, if◌then◌else◌, List, [], ◌∷◌, ◌++◌, map, Option, Some, None, option_map, codes}
use Rattle.std.specs.Borrow.{Bor}
use Rattle.std.specs.Fmt.{decimal}
use Rattle.std.specs.List.{Contains, list_any}
use Rattle.std.specs.Str.{bytes_eq}
use Rattle.graphql_tokens.specs.declared.lexer.TokenKind.{TokenKind}
use Rattle.graphql_tokens.specs.declared.lexer.TokenKind.TheVariants.{String as Quoted, Block}
use Rattle.graphql_tokens.specs.declared.pos.Pos.{Pos}
use Rattle.graphql_tokens.specs.tokens.Kinds.{is_name}
use Rattle.graphql_tokens.specs.tokens.Token.{Bare}
use Rattle.graphql_trees.specs.calls.Locations.{location_word}
use Rattle.graphql_trees.specs.declared.service.DirectiveLocation.{DirectiveLocation}
use Rattle.graphql_report.specs.declared.fronts.Language.{Language}
use Rattle.graphql_report.specs.declared.fronts.Language.TheVariants.{Requests, Schemas}
use Rattle.graphql_report.specs.reports.Expected.{quoted, location_name, end_name}
use Rattle.graphql_report.specs.reports.Words.{is_no_enum_value}

-- ---- the words of definitions

-- what `extend` may stand before
abbrev pub extended_words : List (List ℕ)
extended_words = map codes ("enum" ∷ "input" ∷ "interface" ∷ "scalar" ∷ "schema" ∷ "type" ∷ "union" ∷ [])

-- what a definition of a request begins with
abbrev pub request_words : List (List ℕ)
request_words = map codes ("{" ∷ "fragment" ∷ "mutation" ∷ "query" ∷ "subscription" ∷ [])

-- whether the text is one of these
abbrev pub is_among : List (List ℕ) → List ℕ → Bool
is_among words text = list_any (λ word. bytes_eq word text) words

-- whether a definition of a schema file begins with the word, but for its description
abbrev pub begins_in_schemas : List ℕ → Bool
begins_in_schemas word = is_among extended_words word || bytes_eq word (codes "extend") || bytes_eq word (codes "directive")

-- a description can be this
abbrev pub is_text : TokenKind → Bool
is_text Quoted = true
is_text Block = true
is_text other = false

-- Whether a definition of the other language begins with the token, where one of this language could begin. A brace may be meant
-- for the definition before it, where there is one: then the end of the text is expected.
abbrev pub is_of_other_language : Language → Bare → List (List ℕ) → Bool
is_of_other_language Requests t names = is_among names (quoted (codes "fragment")) && (is_text t.kind || begins_in_schemas t.spelling)
is_of_other_language Schemas t names = is_among names (quoted (codes "extend")) && is_among request_words t.spelling && (not (is_among names end_name) || is_name t.kind)

abbrev pub other_language : Language → Bare → List ℕ
other_language Requests t =
    if is_name t.kind then codes " (\"" ++ t.spelling ++ codes "\" begins a definition of a schema file, and this text is read as a request)"
    else codes " (only a definition of a schema file has a description, and this text is read as a request)"
other_language Schemas t = codes " (\"" ++ t.spelling ++ codes "\" begins a definition of a request, and this text is read as a schema file)"

-- ---- hints

-- the name stands for the word: it is the word in quotes, or the word is a location and the name is that of all of these
abbrev pub IsWordOf : List ℕ → List ℕ → Type 0
IsWordOf name word = (name ≡ quoted word) ⊎ ((name ≡ location_name) × ((location : DirectiveLocation) × (word ≡ codes (location_word location))))

-- one of what is expected is the word
abbrev pub IsExpectedWord : List (List ℕ) → List ℕ → Type 0
IsExpectedWord names word = (name : List ℕ) × Contains names name × IsWordOf name word

-- that a block string isn't closed, which begins at this place
abbrev pub unclosed_hint : Pos → List ℕ
unclosed_hint place = codes " (the block string that begins at " ++ (decimal place.line ++ codes ":" ++ decimal place.column) ++ codes " is probably not closed)"

-- the same if such a place is known
abbrev pub unclosed_part : Option Pos → List ℕ
unclosed_part None = []
unclosed_part (Some place) = unclosed_hint place

-- Nothing, or a hint: that the token belongs to the other language, that the three names are no enum values, that an extension has
-- no description, or which of the words that are expected was meant; and the word that the hint asks for, in the last case alone.
pub data IsHint (language : Language) (token : Bare) (names : List (List ℕ)) (told : List ℕ) (asked : Option (List ℕ)) : Type 0 where
  none : told ≡ [] → asked ≡ None → IsHint language token names told asked
  of_other_language : is_of_other_language language token names ≡ true → told ≡ other_language language token → asked ≡ None → IsHint language token names told asked
  no_enum_value : is_no_enum_value language token.spelling names ≡ true → told ≡ codes " (\"true\", \"false\" and \"null\" can't be enum values)" → asked ≡ None → IsHint language token names told asked
  described_extension : token.spelling ≡ codes "extend" → is_among names (quoted (codes "directive")) ≡ true → told ≡ codes " (an extension has no description)" → asked ≡ None → IsHint language token names told asked
  meant : (word : List ℕ) → IsExpectedWord names word → told ≡ codes " (did you mean \"" ++ word ++ codes "\"?)" → asked ≡ Some word → IsHint language token names told asked

-- the hint, where a block string that isn't closed is known to begin at a place, or no such place is known
abbrev pub IsHintFor : Option Pos → Language → Bare → List (List ℕ) → List ℕ → Option (List ℕ) → Type 0
IsHintFor (Some place) language token names told asked = (told ≡ unclosed_hint place) × (asked ≡ None)
IsHintFor None language token names told asked = IsHint language token names told asked

-- the word as the code has it
abbrev pub word_of : Option (Bor (List ℕ)) → Option (List ℕ)
word_of given = option_map (λ word. word.now) given
