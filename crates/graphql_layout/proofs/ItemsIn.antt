-- `items_in` is the one list of the comments and tokens of a text.
use Rattle.std.proofs.Common.{◌≡◌, ℕ, zero, suc, ◌<◌, Bool, true, false, if◌then◌else◌, ◌==◌, List, [], ◌∷◌, ◌++◌, length, refl, sym, ap, ap₂, ◌∙◌, subst, arith, length-append}
use Rattle.std.proofs.lemmas.Bool.Decides.{nat_tests}
use Rattle.std.specs.List.{AllByRecursion}
use Rattle.std.specs.Str.{chars, encode_utf8_all}
use Rattle.graphql_tokens.specs.tokens.Classes.{is_ignored}
use Rattle.graphql_tokens.specs.tokens.Edition.{Current}
use Rattle.graphql_tokens.specs.tokens.Ignored.{IsComment, EndsLine}
use Rattle.graphql_tokens.specs.tokens.Place.{is_line_end}
use Rattle.graphql_tokens.specs.tokens.Token.{Bare}
use Rattle.graphql_tokens.specs.inner.Reading.{next, before}
use Rattle.graphql_tokens.specs.declared.lexer.TokenKind.{TokenKind}
use Rattle.graphql_tokens.proofs.Nexts.{next_only, begins_rest, begins_some}
use Rattle.graphql_tokens.proofs.Skips.{IsRest, before_is}
use Rattle.graphql_layout.specs.inner.ItemsIn.{line, after_line, first_word, items_from, items_in}
use Rattle.graphql_layout.specs.texts.Items.{Item, comment, word, IsItems}
use Rattle.graphql_layout.proofs.Items.{past_ignored, none_left}

-- ---- one step, by the first character

-- the gap before an item is empty, where the text begins with no ignored character
no_gap : (c : ℕ) (cs g after : List ℕ) → is_ignored c ≡ false → c ∷ cs ≡ g ++ after → AllByRecursion (λ x. is_ignored x ≡ true) g → c ∷ cs ≡ after
no_gap c cs [] after i e b = e
no_gap c cs (x ∷ g) after i e b = absurd (let same : c ≡ x = cc in let t : is_ignored c ≡ true = ap is_ignored same ∙ b.0 in cc)

line_is : (body rest : List ℕ) → AllByRecursion (λ d. is_line_end d ≡ false) body → EndsLine rest → (line (body ++ rest) ≡ body) × (after_line (body ++ rest) ≡ rest)
line_is [] [] b e = (refl, refl)
line_is [] (c ∷ rest) b e = (ap (λ (t : Bool). if t then [] else c ∷ line rest) e, ap (λ (t : Bool). if t then c ∷ rest else after_line rest) e)
line_is (c ∷ body) rest b e =
    let m = line_is body rest b.1 e in
    (ap (λ (t : Bool). if t then [] else c ∷ line (body ++ rest)) b.0 ∙ ap (λ (l : List ℕ). c ∷ l) m.0, ap (λ (t : Bool). if t then c ∷ (body ++ rest) else after_line (body ++ rest)) b.0 ∙ m.1)

-- ---- all steps

abbrev FromHere : ℕ → Type 0
FromHere n = (text : List ℕ) (items : List Item) → length text < n → IsItems text items → items_from n text ≡ items

by_comment : (n c : ℕ) (cs : List ℕ) (items : List Item) → FromHere n → length cs < n → is_ignored c ≡ false → (c == 35) ≡ true → IsItems (c ∷ cs) items → comment (c ∷ line cs) ∷ items_from n (after_line cs) ≡ items
by_comment n c cs [] ih l i k h = absurd (let t : is_ignored c ≡ true = h.0 in cc)
by_comment n c cs (comment d ∷ items) ih l i k h = go d h.is (no_gap c cs h.gap (d ++ h.rest) i h.whole h.blank)
  where
    go : (w : List ℕ) → IsComment w → c ∷ cs ≡ w ++ h.rest → comment (c ∷ line cs) ∷ items_from n (after_line cs) ≡ comment w ∷ items
    go [] s e = absurd s
    go (x ∷ body) s e =
        let first : c ≡ x = cc in
        let is : cs ≡ body ++ h.rest = cc in
        let m = line_is body h.rest s.1 h.ends in
        let short : length h.rest < n = omega (arith, l, ap length is, length-append body h.rest) in
        ap₂ (λ (w : List ℕ) (l : List Item). comment w ∷ l)
        (ap₂ (λ (a : ℕ) (l : List ℕ). a ∷ l) first (ap line is ∙ m.0))
        (ap (items_from n) (ap after_line is ∙ m.1) ∙ ih h.rest items short h.more)
by_comment n c cs (word b ∷ items) ih l i k h =
    absurd (let e = no_gap c cs h.gap (h.spelling ++ h.rest) i h.whole h.blank in let r : IsRest (c ∷ cs) = subst IsRest (sym e) (begins_rest Current b.kind h.spelling h.rest h.begins) in r.1 (grind (arith, nat_tests)))

by_word : (n c : ℕ) (cs : List ℕ) (items : List Item) → FromHere n → length cs < n → is_ignored c ≡ false → (c == 35) ≡ false → IsItems (c ∷ cs) items → word (first_word (c ∷ cs)) ∷ items_from n (next (c ∷ cs)).1 ≡ items
by_word n c cs [] ih l i k h = absurd (let t : is_ignored c ≡ true = h.0 in cc)
by_word n c cs (comment d ∷ items) ih l i k h = absurd (go d h.is (no_gap c cs h.gap (d ++ h.rest) i h.whole h.blank))
  where
    go : (w : List ℕ) → IsComment w → c ∷ cs ≡ w ++ h.rest → ⊥
    go [] s e = s
    go (x ∷ w) s e = let first : c ≡ x = cc in let t : (c == 35) ≡ true = ap (λ (y : ℕ). y == 35) (first ∙ s.0) in cc
by_word n c cs (word b ∷ items) ih l i k h =
    let text = c ∷ cs in
    let e = no_gap c cs h.gap (h.spelling ++ h.rest) i h.whole h.blank in
    let only : next text ≡ (b.kind, h.rest) = ap next e ∙ next_only b.kind h.spelling h.rest h.begins in
    let kind : (next text).0 ≡ b.kind = ap (λ p. p.0) only in
    let rest : (next text).1 ≡ h.rest = ap (λ p. p.1) only in
    let spelling : before text (next text).1 ≡ h.spelling = ap (before text) rest ∙ before_is text h.spelling h.rest e in
    let short : length h.rest < n = omega (arith, l, ap length e, length-append h.spelling h.rest, begins_some Current b.kind h.spelling h.rest h.begins) in
    ap₂ (λ (w : Bare) (l : List Item). word w ∷ l)
    (ap₂ (λ (x : TokenKind) (y : List ℕ). record { kind = x; spelling = y }) kind (ap encode_utf8_all spelling ∙ sym h.bytes))
    (ap (items_from n) rest ∙ ih h.rest items short h.more)

one_step : (n c : ℕ) (cs : List ℕ) (items : List Item) → FromHere n → length cs < n → IsItems (c ∷ cs) items → (i : Bool) → is_ignored c ≡ i → (k : Bool) → (c == 35) ≡ k
    → (if i then items_from n cs else (if k then comment (c ∷ line cs) ∷ items_from n (after_line cs) else word (first_word (c ∷ cs)) ∷ items_from n (next (c ∷ cs)).1)) ≡ items
one_step n c cs items ih l h true i k e = ih cs items l (past_ignored c cs items i h)
one_step n c cs items ih l h false i true e = by_comment n c cs items ih l i e h
one_step n c cs items ih l h false i false e = by_word n c cs items ih l i e h

from_here : (n : ℕ) → FromHere n
from_here zero text items l h = absurd (omega arith)
from_here (suc n) [] items l h = none_left items h
from_here (suc n) (c ∷ cs) items l h = one_step n c cs items (from_here n) (omega arith) h (is_ignored c) refl (c == 35) refl

pub items_are : (text : List ℕ) (items : List Item) → IsItems (chars text) items → items_in text ≡ items
unfolding items_in
items_are text items h = from_here (suc (length (chars text))) (chars text) items (omega arith) h
