-- The comments and tokens of a text, as a function.
-- Source: this project's choice.
use Rattle.std.specs.Prelude.{ℕ, zero, suc, ◌==◌, if◌then◌else◌, List, [], ◌∷◌, length}
use Rattle.std.specs.Str.{byte, chars, encode_utf8_all}
use Rattle.graphql_tokens.specs.tokens.Classes.{is_ignored}
use Rattle.graphql_tokens.specs.tokens.Place.{is_line_end}
use Rattle.graphql_tokens.specs.tokens.Token.{Bare}
use Rattle.graphql_tokens.specs.inner.Reading.{next, before}
use Rattle.graphql_layout.specs.texts.Items.{Item, comment, word}

-- up to the line's end, and from there on
abbrev pub line : List ℕ → List ℕ
line [] = []
line (c ∷ cs) = if is_line_end c then [] else c ∷ line cs

abbrev pub after_line : List ℕ → List ℕ
after_line [] = []
after_line (c ∷ cs) = if is_line_end c then c ∷ cs else after_line cs

-- the token at the front
abbrev pub first_word : List ℕ → Bare
first_word text = record { kind = (next text).0; spelling = encode_utf8_all (before text (next text).1) }

-- in at most n steps
abbrev pub items_from : ℕ → List ℕ → List Item
items_from zero text = []
items_from (suc n) [] = []
items_from (suc n) (c ∷ cs) =
    if is_ignored c then items_from n cs else
    (if c == byte "#" then comment (c ∷ line cs) ∷ items_from n (after_line cs) else
    word (first_word (c ∷ cs)) ∷ items_from n (next (c ∷ cs)).1)

unfoldable pub items_in : List ℕ → List Item
items_in text = items_from (suc (length (chars text))) (chars text)
