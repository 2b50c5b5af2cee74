-- Block strings that are written in few characters.
-- Source: GraphQL October 2021, section 2.9.4 (String Value). Where a line feed is written that isn't one of the value's is this
-- project's choice: where GraphQL.js 16 writes one when it strips a text of ignored characters.
use Rattle.std.specs.Prelude.{ℕ, zero, suc, Bool, false, not, ◌&&◌, ◌||◌, ◌==◌, nat_lt, if◌then◌else◌, List, [], ◌∷◌, ◌++◌, length, codes}
use Rattle.std.specs.List.{list_any}
use Rattle.std.specs.Str.{byte, encode_utf8_all}
use Rattle.graphql_tokens.specs.tokens.Alike.{inside, value_of_block}
use Rattle.graphql_tokens.specs.tokens.Blocks.{closes}
use Rattle.graphql_tokens.specs.tokens.BlockText.{is_blank_char}
use Rattle.graphql_tokens.specs.tokens.Token.{Bare}
use Rattle.graphql_tokens.specs.declared.lexer.TokenKind.{TokenKind}
use Rattle.graphql_tokens.specs.declared.lexer.TokenKind.TheVariants.{Block}
use Rattle.graphql_layout.specs.texts.OneReading.{has_one_reading}

-- ---- a value's characters between the quotes

-- The first so many stand as they are. From there on each `"""` has a backslash before it, from left to right.
abbrev pub escaped : ℕ → List ℕ → List ℕ
escaped quotes [] = []
escaped (suc n) (c ∷ cs) = c ∷ escaped n cs
escaped zero (c ∷ cs) = if closes (c ∷ cs) then byte "\\" ∷ c ∷ escaped 2 cs else c ∷ escaped 0 cs

-- ---- after them

-- a quote or a backslash
abbrev pub is_mark : ℕ → Bool
is_mark c = c == byte "\"" || c == byte "\\"

-- Whether the last character is a backslash, or a quote that is in no `"""` with a backslash before it: closing quotes would be
-- read with it. Where there is none, it is what is said here.
abbrev pub is_open : ℕ → Bool → List ℕ → Bool
is_open quotes before [] = before
is_open (suc n) before (c ∷ cs) = is_open n false cs
is_open zero before (c ∷ cs) = if closes (c ∷ cs) then is_open 2 false cs else is_open 0 (is_mark c) cs

-- ---- before them

abbrev pub has : ℕ → List ℕ → Bool
has wanted cs = list_any (λ c. c == wanted) cs

-- neither a blank nor a line feed
abbrev pub is_text : ℕ → Bool
is_text c = not (is_blank_char c || c == byte "\n")

-- a line begins with a text: the first too, if the characters begin a line
abbrev pub has_margin : Bool → List ℕ → Bool
has_margin begins [] = false
has_margin begins (c ∷ cs) = (begins && is_text c) || has_margin (c == byte "\n") cs

-- There are more lines than one, and each after the first is empty or begins with a blank. Right after the opening quotes they
-- would lose what they are all indented by.
abbrev pub is_hung : List ℕ → Bool
is_hung cs = has (byte "\n") cs && not (has_margin false cs)

-- ---- the whole

abbrev pub line_feed_if : Bool → List ℕ
line_feed_if b = if b then codes "\n" else []

-- the block string with this value that is written in few characters, as bytes
unfoldable pub compact : List ℕ → List ℕ
compact value = encode_utf8_all (codes "\"\"\"" ++ ((line_feed_if (is_hung value) ++ (escaped 0 value ++ line_feed_if (is_open 0 false value))) ++ codes "\"\"\""))

-- the first, if it isn't longer than the second, and else that
abbrev pub shorter : List ℕ → List ℕ → List ℕ
shorter one other = if nat_lt (length other) (length one) then other else one

abbrev pub shortened_by : TokenKind → List ℕ → List ℕ
shortened_by Block spelling = if has_one_reading (inside 3 spelling) then shorter (compact (value_of_block spelling)) spelling else spelling
shortened_by other spelling = spelling

-- the token; a block string that has one reading is written in few characters, if these aren't more than there are
abbrev pub shortened : Bare → Bare
shortened b = record { kind = b.kind; spelling = shortened_by b.kind b.spelling }
