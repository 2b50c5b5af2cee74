-- What is written on a sheet has the comments and tokens that it held before, and the new one.
use Rattle.std.proofs.Common.{◌≡◌, ℕ, Bool, true, false, not, List, [], ◌∷◌, ◌++◌, refl, sym, ap, ◌∙◌, subst, append_assoc, append-nil, arith, rules}
use Rattle.std.proofs.lemmas.Str.{chars-append, chars-IsAscii, chars-nil, encode_ascii}
use lib.Utf8.{encode}
use Rattle.std.specs.List.{AllByRecursion}
use Rattle.std.specs.Str.{chars, IsUtf8, IsAscii}
use Rattle.graphql_tokens.specs.tokens.Classes.{is_ignored}
use Rattle.graphql_tokens.specs.tokens.Ignored.{IsComment, EndsLine}
use Rattle.graphql_tokens.specs.tokens.Place.{is_line_end}
use Rattle.graphql_tokens.specs.tokens.Edition.{Current}
use Rattle.graphql_tokens.specs.tokens.Proper.{Spells}
use Rattle.graphql_tokens.specs.tokens.Spelling.{Begins}
use Rattle.graphql_tokens.specs.tokens.Token.{Bare}
use Rattle.graphql_tokens.specs.declared.lexer.TokenKind.{TokenKind}
use Rattle.graphql_layout.specs.declared.ending.Ending.{Ending}
use Rattle.graphql_layout.specs.declared.ending.Ending.TheVariants as endings
use Rattle.graphql_layout.specs.declared.line_ends.LineEnd.{LineEnd}
use Rattle.graphql_layout.specs.declared.line_ends.LineEnd.TheVariants.{Feed, ReturnAndFeed}
use Rattle.graphql_layout.specs.declared.sheet.Last.{Last}
use Rattle.graphql_layout.specs.declared.sheet.Last.TheVariants.{Comment, Other}
use Rattle.graphql_layout.specs.inner.Endings.{ending_by}
use Rattle.graphql_layout.specs.inner.ItemsIn.{items_in}
use Rattle.graphql_layout.specs.inner.Sheets.{holds_off, holds_off_token, MayCome, Goes, IsSheet, Holds}
use Rattle.graphql_layout.specs.inner.Written.{Allows}
use Rattle.graphql_layout.specs.texts.Items.{Item, comment, word, IsItems, words}
use Rattle.graphql_layout.specs.texts.LineEnds.{line_end}
use Rattle.graphql_layout.specs.texts.SameTokens.{HasTokens}
use Rattle.graphql_layout.proofs.Firsts.{begun, allows_token, may_follow}
use Rattle.graphql_layout.proofs.Items.{ignored_item, comment_item, word_item, items_written}
use Rattle.graphql_layout.proofs.ItemsIn.{items_are}
use Rattle.graphql_layout.proofs.Joined.{IsSpelled, spelled, chars_spelled}

-- ---- the items are those of the text

pub items_of : (text : List ℕ) (last : Last) (items : List Item) → Goes text last items → IsItems (chars text) items
items_of text last items g =
    let h : IsItems (chars text ++ []) (items ++ []) = g [] [] tt tt in
    subst (λ (t : List ℕ). IsItems t items) (append-nil (chars text)) (subst (IsItems (chars text ++ [])) (append-nil items) h)

holds : (text : List ℕ) (last : Last) (items : List Item) → Goes text last items → Holds text last items
holds text last items g =
    let e = items_are text items (items_of text last items g) in
    record { has = e; sheet = record { goes = subst (λ (l : List Item). Goes text last l) (sym e) g } }

pub finished : (text : List ℕ) (last : Last) → IsSheet text last → IsItems (chars text) (items_in text)
finished text last s = items_of text last (items_in text) s.goes

pub finished_tokens : (text : List ℕ) (last : Last) → IsSheet text last → HasTokens text (words (items_in text))
finished_tokens text last s = items_written (chars text) (items_in text) (finished text last s) []

-- ---- what is written

pub opened : (text : List ℕ) → text ≡ [] → Holds text (Other endings.Open) []
opened text e = holds text (Other endings.Open) [] (λ rest others a h. subst (λ (x : List ℕ). IsItems (x ++ rest) others) (sym (ap chars e ∙ chars-nil)) h)

-- a text after another
seam : (text part w rest new : List ℕ) → IsUtf8 text → chars part ≡ w → new ≡ text ++ part → chars new ++ rest ≡ chars text ++ (w ++ rest)
seam text part w rest new u e n =
    ap (λ (x : List ℕ). chars x ++ rest) n ∙ ap (λ (x : List ℕ). x ++ rest) (chars-append text part u ∙ ap (λ (x : List ℕ). chars text ++ x) e) ∙ append_assoc (chars text) w rest

-- a line's end may always come, a blank and a comma after all but a comment
line_allowed : (last : Last) → (holds_off last 10 ≡ false) × (holds_off last 13 ≡ false)
line_allowed Comment = (refl, refl)
line_allowed (Other endings.Open) = (refl, refl)
line_allowed (Other endings.Name) = (refl, refl)
line_allowed (Other endings.Number) = (refl, refl)
line_allowed (Other endings.EmptyString) = (refl, refl)

blank_allowed : (ending : Ending) → holds_off (Other ending) 32 ≡ false
blank_allowed endings.Open = refl
blank_allowed endings.Name = refl
blank_allowed endings.Number = refl
blank_allowed endings.EmptyString = refl

comma_allowed : (ending : Ending) → holds_off (Other ending) 44 ≡ false
comma_allowed endings.Open = refl
comma_allowed endings.Name = refl
comma_allowed endings.Number = refl
comma_allowed endings.EmptyString = refl

pub comment_allowed : (ending : Ending) → holds_off (Other ending) 35 ≡ false
comment_allowed endings.Open = refl
comment_allowed endings.Name = refl
comment_allowed endings.Number = refl
comment_allowed endings.EmptyString = refl

open_comes : (rest : List ℕ) → MayCome (Other endings.Open) rest
open_comes [] = tt
open_comes (c ∷ cs) = refl

gap_added : (text new : List ℕ) (last : Last) (c : ℕ) (cs part : List ℕ) → IsUtf8 text → IsSheet text last → chars part ≡ c ∷ cs → ((rest : List ℕ) (others : List Item) → IsItems rest others → IsItems (c ∷ (cs ++ rest)) others) → holds_off last c ≡ false → new ≡ text ++ part
    → Holds new (Other endings.Open) (items_in text)
gap_added text new last c cs part u s is ignored n e =
    holds new (Other endings.Open) (items_in text) (λ rest others a h.
    subst (λ (x : List ℕ). IsItems x (items_in text ++ others)) (sym (seam text part (c ∷ cs) rest new u is e))
    (s.goes (c ∷ (cs ++ rest)) others n (ignored rest others h)))

pub line_added : (end : LineEnd) (text new : List ℕ) (last : Last) → IsUtf8 text → IsSheet text last → new ≡ text ++ line_end end → Holds new (Other endings.Open) (items_in text)
line_added Feed text new last u s e =
    gap_added text new last 10 [] (10 ∷ []) u s (chars-IsAscii (10 ∷ []) (search rules)) (λ rest others h. ignored_item 10 rest others refl h) (line_allowed last).0 e
line_added ReturnAndFeed text new last u s e =
    gap_added text new last 13 (10 ∷ []) (13 ∷ 10 ∷ []) u s (chars-IsAscii (13 ∷ 10 ∷ []) (search rules)) (λ rest others h. ignored_item 13 (10 ∷ rest) others refl (ignored_item 10 rest others refl h)) (line_allowed last).1 e

pub blank_added : (text new : List ℕ) (ending : Ending) → IsUtf8 text → IsSheet text (Other ending) → new ≡ text ++ encode 32 → Holds new (Other endings.Open) (items_in text)
blank_added text new ending u s e =
    gap_added text new (Other ending) 32 [] (32 ∷ []) u s (chars-IsAscii (32 ∷ []) (search rules)) (λ rest others h. ignored_item 32 rest others refl h) (blank_allowed ending)
    (e ∙ ap (λ (x : List ℕ). text ++ x) (encode_ascii 32 (omega arith)))

pub comma_added : (text new : List ℕ) (ending : Ending) → IsUtf8 text → IsSheet text (Other ending) → new ≡ text ++ encode 44 → Holds new (Other endings.Open) (items_in text)
comma_added text new ending u s e =
    gap_added text new (Other ending) 44 [] (44 ∷ []) u s (chars-IsAscii (44 ∷ []) (search rules)) (λ rest others h. ignored_item 44 rest others refl h) (comma_allowed ending)
    (e ∙ ap (λ (x : List ℕ). text ++ x) (encode_ascii 44 (omega arith)))

blanks_item : (blanks rest : List ℕ) (others : List Item) → AllByRecursion (λ c. c ≡ 32) blanks → IsItems rest others → IsItems (blanks ++ rest) others
blanks_item [] rest others b h = h
blanks_item (c ∷ blanks) rest others b h = ignored_item c (blanks ++ rest) others (ap is_ignored b.0) (blanks_item blanks rest others b.1 h)

pub blanks_added : (text new blanks : List ℕ) → IsUtf8 text → IsSheet text (Other endings.Open) → AllByRecursion (λ c. c ≡ 32) blanks → IsAscii blanks → new ≡ text ++ blanks → Holds new (Other endings.Open) (items_in text)
blanks_added text new blanks u s b a e =
    holds new (Other endings.Open) (items_in text) (λ rest others m h.
    subst (λ (x : List ℕ). IsItems x (items_in text ++ others)) (sym (seam text blanks blanks rest new u (chars-IsAscii blanks a) e))
    (s.goes (blanks ++ rest) others (open_comes (blanks ++ rest)) (blanks_item blanks rest others b h)))

comes_allows : (ending : Ending) (rest : List ℕ) → MayCome (Other ending) rest → Allows ending rest
comes_allows ending [] a = tt
comes_allows ending (c ∷ rest) a = a

allows_comes : (ending : Ending) (rest : List ℕ) → Allows ending rest → MayCome (Other ending) rest
allows_comes ending [] a = tt
allows_comes ending (c ∷ rest) a = a

token_comes : (last : Last) (b : Bare) (w rest : List ℕ) → IsSpelled b w → holds_off_token last b.spelling ≡ false → MayCome last (w ++ rest)
token_comes Comment b w rest t n = absurd cc
token_comes (Other ending) b w rest t n = allows_comes ending (w ++ rest) (allows_token ending b.spelling w rest (begun b.kind w t.spelling) t.bytes n)

pub token_added : (text new : List ℕ) (last : Last) (kind : TokenKind) (bytes : List ℕ) → IsUtf8 text → IsSheet text last → Spells kind bytes → holds_off_token last bytes ≡ false → new ≡ text ++ bytes
    → Holds new (Other (ending_by kind bytes)) (items_in text ++ word (record { kind = kind; spelling = bytes }) ∷ [])
token_added text new last kind bytes u s p n e =
    let b : Bare = record { kind = kind; spelling = bytes } in
    let w = (spelled b p).0 in
    let t : IsSpelled b w = (spelled b p).1 in
    let chars_is : chars bytes ≡ w = ap chars (sym (append-nil bytes)) ∙ chars_spelled b w [] t ∙ ap (λ (x : List ℕ). w ++ x) chars-nil ∙ append-nil w in
    holds new (Other (ending_by kind bytes)) (items_in text ++ word b ∷ []) (λ rest others a h.
    let begins : Begins Current kind w rest = record { spelled = t.spelling; follows = may_follow kind w bytes rest t.spelling t.bytes (comes_allows (ending_by kind bytes) rest a) } in
    let more : IsItems (w ++ rest) (word b ∷ others) = subst (λ (x : List ℕ). IsItems (w ++ rest) (word (record { kind = kind; spelling = x }) ∷ others)) (sym t.bytes) (word_item kind w rest others begins h) in
    subst (λ (x : List ℕ). IsItems x ((items_in text ++ word b ∷ []) ++ others)) (sym (seam text bytes w rest new u chars_is e))
    (subst (λ (l : List Item). IsItems (chars text ++ (w ++ rest)) l) (sym (append_assoc (items_in text) (word b ∷ []) others)) (s.goes (w ++ rest) (word b ∷ others) (token_comes last b w rest t n) more)))

ends_line : (rest : List ℕ) → MayCome Comment rest → EndsLine rest
ends_line [] a = tt
ends_line (c ∷ cs) a = by (is_line_end c) refl a
  where
    by : (b : Bool) → is_line_end c ≡ b → not b ≡ false → is_line_end c ≡ true
    by true e h = e
    by false e h = absurd cc

comment_comes : (last : Last) (w rest : List ℕ) → IsComment w → holds_off last 35 ≡ false → MayCome last (w ++ rest)
comment_comes last [] rest k n = absurd k
comment_comes last (c ∷ w) rest k n = ap (holds_off last) k.0 ∙ n

pub comment_added : (text new : List ℕ) (last : Last) (bytes : List ℕ) → IsUtf8 text → IsSheet text last → IsComment (chars bytes) → holds_off last 35 ≡ false → new ≡ text ++ bytes
    → Holds new Comment (items_in text ++ comment (chars bytes) ∷ [])
comment_added text new last bytes u s k n e =
    let w = chars bytes in
    holds new Comment (items_in text ++ comment w ∷ []) (λ rest others a h.
    subst (λ (x : List ℕ). IsItems x ((items_in text ++ comment w ∷ []) ++ others)) (sym (seam text bytes w rest new u refl e))
    (subst (λ (l : List Item). IsItems (chars text ++ (w ++ rest)) l) (sym (append_assoc (items_in text) (comment w ∷ []) others)) (s.goes (w ++ rest) (comment w ∷ others) (comment_comes last w rest k n) (comment_item w rest others k (ends_line rest a) h))))
