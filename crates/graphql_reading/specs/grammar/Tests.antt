-- Tests of one token. They look at its kind and its spelling, and never at its place.
-- Source: the kinds of tokens of GraphQL October 2021, section 2.1.6; a keyword is a name (section 2.1.9).
use Rattle.std.specs.Prelude.{ℕ, Bool, false, not, ◌&&◌, ◌||◌, List, [], ◌∷◌, codes}
use Rattle.std.specs.Str.{bytes_eq}
use Rattle.graphql_tokens.specs.tokens.Kinds.{is_punct, is_name, is_number, is_string, is_block, is_end}
use Rattle.graphql_tokens.specs.tokens.Token.{Bare}
use Prim.Native.String.{String}

abbrev pub Test : Type 0
Test = Bare → Bool

-- the spelling is one of these words
abbrev pub is_among : List ℕ → List String → Bool
is_among spelling [] = false
is_among spelling (word ∷ words) = bytes_eq spelling (codes word) || is_among spelling words

-- this punctuator
abbrev pub punct : String → Test
punct word t = is_punct t.kind && bytes_eq t.spelling (codes word)

-- the name that is this word
abbrev pub keyword : String → Test
keyword word t = is_name t.kind && bytes_eq t.spelling (codes word)

-- any name
abbrev pub any_name : Test
any_name t = is_name t.kind

-- any name but these words
abbrev pub name_but : List String → Test
name_but words t = is_name t.kind && not (is_among t.spelling words)

-- any number, any string, any block string
abbrev pub any_number : Test
any_number t = is_number t.kind

abbrev pub any_string : Test
any_string t = is_string t.kind

abbrev pub any_block : Test
any_block t = is_block t.kind

-- the end of the text
abbrev pub the_end : Test
the_end t = is_end t.kind
