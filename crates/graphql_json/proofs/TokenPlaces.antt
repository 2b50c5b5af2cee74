-- The places of a text's tokens grow, where a line feed comes after each carriage return.
use Rattle.std.proofs.Common.{◌≡◌, ◌≢◌, ℕ, ◌+◌, ◌≤◌, ◌⊎◌, inl, inr, Bool, true, false, cond, eqb, List, [], ◌∷◌, ◌++◌, length, chars, refl, sym, ap, ◌∙◌, subst, arith, append_assoc, append-nil}
use Rattle.std.specs.List.{concat}
use Rattle.std.proofs.lemmas.Bool.{or_parts, not_from_false, cases_Bool, or_cases, eqb-true}
use Rattle.graphql_parser.specs.answers.Language.{Language}
use Rattle.graphql_tokens.specs.declared.pos.Pos.{Pos}
use Rattle.graphql_tokens.specs.tokens.Classes.{is_ignored}
use Rattle.graphql_tokens.specs.tokens.Cuts.{Cuts, TokenStands, GoesOn}
use Rattle.graphql_tokens.specs.tokens.Edition.{Edition, Current}
use Rattle.graphql_tokens.specs.tokens.Place.{place_after, is_line_feed, is_line_end, is_in_line}
use Rattle.graphql_tokens.specs.tokens.Token.{Token}
use Rattle.graphql_tokens.proofs.Lists.{Stands}
use Rattle.graphql_tokens.proofs.Nexts.{begins_rest, begins_some}
use Rattle.graphql_tokens.proofs.Places.{line_push, column_push}
use Rattle.graphql_tokens.proofs.Skips.{IsRest}
use Rattle.graphql_json.specs.nodes.SourceOrder.{AreOfText, HasNoLoneReturn}
use Rattle.graphql_json.proofs.PlaceOrder.{Before, stands, further, AllAfter, Grow, places_of, last_grow}

-- ---- the place after more characters

-- no line feed is next
abbrev NoFeed : List ℕ → Type 0
NoFeed [] = Unit {0}
NoFeed (c ∷ cs) = c ≢ 10

data Kind (c : ℕ) : Type 0 where
  feed : c ≡ 10 → Kind c
  return : c ≡ 13 → Kind c
  inside : is_line_feed c ≡ false → is_in_line c ≡ true → Kind c

kind_of : (c : ℕ) → Kind c
kind_of c = by (cases_Bool (is_line_end c))
  where
    by : (is_line_end c ≡ true) ⊎ (is_line_end c ≡ false) → Kind c
    by (inl e) = ends (or_cases _ _ e)
      where
        ends : (is_line_feed c ≡ true) ⊎ (eqb c 13 ≡ true) → Kind c
        ends (inl f) = feed (eqb-true c 10 f)
        ends (inr r) = return (eqb-true c 13 r)
    by (inr e) = inside (or_parts _ _ e).0 (not_from_false _ e)

one_inside : (x : List ℕ) (c : ℕ) → is_line_feed c ≡ false → is_in_line c ≡ true → Before (place_after x) (place_after (x ++ c ∷ []))
one_inside x c f i =
    inr (
      omega (arith, line_push x c, ap {B = ℕ} (λ (b : Bool). cond b 1 0) f),
      omega (arith, column_push x c, ap {B = ℕ} (λ (b : Bool). cond b ((place_after x).column + 1) 1) i),
    )

one_feed : (x : List ℕ) → Before (place_after x) (place_after (x ++ 10 ∷ []))
one_feed x = inl (omega (arith, line_push x 10))

return_and_feed : (x : List ℕ) → Before (place_after x) (place_after ((x ++ 13 ∷ []) ++ 10 ∷ []))
return_and_feed x = inl (omega (arith, line_push x 13, line_push (x ++ 13 ∷ []) 10))

-- on to the place after some more characters, if there are some
onwards : (x y : List ℕ) (p : Pos) → Before p (place_after x) → (y ≢ [] → Before (place_after x) (place_after (x ++ y))) → Before p (place_after (x ++ y))
onwards x [] p h more = subst (λ (l : List ℕ). Before p (place_after l)) (sym (append-nil x)) h
onwards x (c ∷ cs) p h more = further p (place_after x) (place_after (x ++ c ∷ cs)) h (more (λ e. cc))

-- one character more is passed
passed : (x : List ℕ) (c : ℕ) (y : List ℕ) → (x ++ c ∷ []) ++ y ≡ x ++ c ∷ y
passed x c y = append_assoc x (c ∷ []) y

starts_with : (z rest : List ℕ) → NoFeed z → z ≡ 10 ∷ rest → ⊥
starts_with [] rest n e = absurd cc
starts_with (c ∷ z) rest n e = n cc

-- what is left to show, where a carriage return is passed
abbrev AfterReturn : List ℕ → List ℕ → List ℕ → Type 0
AfterReturn x y z = HasNoLoneReturn ((x ++ 13 ∷ []) ++ (y ++ z)) → NoFeed z → (rest : List ℕ) → y ++ z ≡ 10 ∷ rest → Before (place_after x) (place_after ((x ++ 13 ∷ []) ++ y))

by_kind : (x y z : List ℕ) (c : ℕ) → HasNoLoneReturn (x ++ c ∷ (y ++ z)) → NoFeed z
    → (Before (place_after x) (place_after (x ++ c ∷ [])) → Before (place_after x) (place_after ((x ++ c ∷ []) ++ y))) → AfterReturn x y z
    → Kind c → Before (place_after x) (place_after ((x ++ c ∷ []) ++ y))
by_kind x y z c h n on after (inside f i) = on (one_inside x c f i)
by_kind x y z c h n on after (feed e) = on (subst (λ (b : ℕ). Before (place_after x) (place_after (x ++ b ∷ []))) (sym e) (one_feed x))
by_kind x y z c h n on after (return e) =
    let next = h x (y ++ z) (ap (λ (b : ℕ). x ++ b ∷ (y ++ z)) e) in
    let left : HasNoLoneReturn ((x ++ 13 ∷ []) ++ (y ++ z)) = subst HasNoLoneReturn (ap (λ (b : ℕ). x ++ b ∷ (y ++ z)) e ∙ sym (passed x 13 (y ++ z))) h in
    subst (λ (b : ℕ). Before (place_after x) (place_after ((x ++ b ∷ []) ++ y))) (sym e) (after left n next.0 next.1)

mutual
  -- the place is larger after more characters, unless it is that between a carriage return and its line feed
  place_grows : (x y z : List ℕ) → HasNoLoneReturn (x ++ (y ++ z)) → NoFeed z → y ≢ [] → Before (place_after x) (place_after (x ++ y))
  place_grows x [] z h n some = absurd (some refl)
  place_grows x (c ∷ y) z h n some =
      let left : HasNoLoneReturn ((x ++ c ∷ []) ++ (y ++ z)) = subst HasNoLoneReturn (sym (passed x c (y ++ z))) h in
      subst (λ (l : List ℕ). Before (place_after x) (place_after l)) (passed x c y)
      (by_kind x y z c h n (λ first. onwards (x ++ c ∷ []) y (place_after x) first (place_grows (x ++ c ∷ []) y z left n)) (after_return x y z) (kind_of c))

  after_return : (x y z : List ℕ) → AfterReturn x y z
  after_return x [] z h n rest e = absurd (starts_with z rest n e)
  after_return x (d ∷ y) z h n rest e =
      let feed : d ≡ 10 = cc in
      let here = (x ++ 13 ∷ []) ++ 10 ∷ [] in
      let same : here ++ y ≡ (x ++ 13 ∷ []) ++ d ∷ y = passed (x ++ 13 ∷ []) 10 y ∙ ap (λ (b : ℕ). (x ++ 13 ∷ []) ++ b ∷ y) (sym feed) in
      let left : HasNoLoneReturn (here ++ (y ++ z)) = subst HasNoLoneReturn (ap (λ (b : ℕ). (x ++ 13 ∷ []) ++ b ∷ (y ++ z)) feed ∙ sym (passed (x ++ 13 ∷ []) 10 (y ++ z))) h in
      subst (λ (l : List ℕ). Before (place_after x) (place_after l)) same (onwards here y (place_after x) (return_and_feed x) (place_grows here y z left n))

-- ---- tokens

some_word : (w : List ℕ) → 1 ≤ length w → w ≢ []
some_word [] h = absurd (omega arith)
some_word (c ∷ cs) h = λ e. cc

more_words : (w v : List ℕ) → w ≢ [] → w ++ v ≢ []
more_words [] v some = absurd (some refl)
more_words (c ∷ w) v some = λ e. cc

no_feed : (after : List ℕ) → IsRest after → NoFeed after
no_feed [] h = tt
no_feed (c ∷ cs) h = λ e. let ignored : is_ignored c ≡ true = ap is_ignored e in cc

goes_on_rest : (after : List ℕ) → GoesOn after → IsRest after
goes_on_rest [] h = tt
goes_on_rest (c ∷ cs) h = h

-- what comes after the ignored text begins with no line feed, and the token stands there
stands_there : (edition : Edition) (here after : List ℕ) (t : Token) (ts : List Token) → Stands edition here after t ts → NoFeed after × (t.pos ≡ place_after here)
stands_there edition here after t ts (inl b) =
    (no_feed after (subst IsRest (sym b.0.whole) (begins_rest edition b.0.kind b.0.word b.0.rest b.0.begins)), ap (λ t. t.pos) b.0.is)
stands_there edition here after t ts (inr (inl b)) = (subst NoFeed (sym b.0.ends) tt, ap (λ t. t.pos) b.0.is)
stands_there edition here after t ts (inr (inr b)) = (no_feed after (goes_on_rest after b.0.goes_on), ap (λ t. t.pos) b.0.is)

-- the characters of a text, cut before and after a token
whole_text : (front text pieces after word rest : List ℕ) → text ≡ pieces ++ after → after ≡ word ++ rest → front ++ text ≡ ((front ++ pieces) ++ word) ++ rest
whole_text front text pieces after word rest e f =
    ap (λ (l : List ℕ). front ++ l) (e ∙ ap (λ (l : List ℕ). pieces ++ l) f)
    ∙ sym (append_assoc front pieces (word ++ rest)) ∙ sym (append_assoc (front ++ pieces) word rest)

-- the places of the tokens after one, where there are some
rest_of : {edition : Edition} {here after : List ℕ} {t : Token} {ts : List Token} (P : List Pos → Type 0) → P []
    → ((first : TokenStands edition here after t) → Cuts edition (here ++ first.word) first.rest ts → P (places_of ts)) → Stands edition here after t ts → P (places_of ts)
rest_of P none some (inl b) = some b.0 b.1
rest_of P none some (inr (inl b)) = subst (λ (l : List Token). P (places_of l)) (sym b.1) none
rest_of P none some (inr (inr b)) = subst (λ (l : List Token). P (places_of l)) (sym b.1) none

-- each token stands after the characters of x, and after some more
all_after : (edition : Edition) (x w front text : List ℕ) (ts : List Token) → front ≡ x ++ w → w ≢ [] → HasNoLoneReturn (front ++ text) → Cuts edition front text ts → AllAfter (place_after x) (places_of ts)
all_after edition x w front text [] e some h c = absurd c
all_after edition x w front text (t ∷ ts) e some h (ignored, s) =
    let pieces = concat ignored.pieces in
    let there = stands_there edition (front ++ pieces) ignored.after t ts s in
    let same : front ++ pieces ≡ x ++ (w ++ pieces) = ap (λ (l : List ℕ). l ++ pieces) e ∙ append_assoc x w pieces in
    let cut : front ++ text ≡ x ++ ((w ++ pieces) ++ ignored.after) =
    ap (λ (l : List ℕ). front ++ l) ignored.whole ∙ sym (append_assoc front pieces ignored.after) ∙ ap (λ (l : List ℕ). l ++ ignored.after) same ∙ append_assoc x (w ++ pieces) ignored.after in
    let first = place_grows x (w ++ pieces) ignored.after (subst HasNoLoneReturn cut h) there.0 (more_words w pieces some) in (
      stands (place_after x) t.pos (subst (Before (place_after x)) (ap place_after (sym same) ∙ sym there.1) first),
      rest_of (AllAfter (place_after x)) tt (λ b cuts. all_after edition x ((w ++ pieces) ++ b.word) ((front ++ pieces) ++ b.word) b.rest ts
          (ap (λ (l : List ℕ). l ++ b.word) same ∙ append_assoc x (w ++ pieces) b.word)
          (more_words (w ++ pieces) b.word (more_words w pieces some))
          (subst HasNoLoneReturn (whole_text front text pieces ignored.after b.word b.rest ignored.whole b.whole) h)
          cuts) s,
    )

tokens_grow : (edition : Edition) (front text : List ℕ) (ts : List Token) → HasNoLoneReturn (front ++ text) → Cuts edition front text ts → Grow (places_of ts)
tokens_grow edition front text [] h c = absurd c
tokens_grow edition front text (t ∷ ts) h (ignored, s) =
    let pieces = concat ignored.pieces in
    let there = stands_there edition (front ++ pieces) ignored.after t ts s in
    let left = λ (b : TokenStands edition (front ++ pieces) ignored.after t). subst HasNoLoneReturn (whole_text front text pieces ignored.after b.word b.rest ignored.whole b.whole) h in (
      subst (λ (p : Pos). AllAfter p (places_of ts)) (sym there.1)
          (rest_of (AllAfter (place_after (front ++ pieces))) tt (λ b cuts. all_after edition (front ++ pieces) b.word ((front ++ pieces) ++ b.word) b.rest ts refl (some_word b.word (begins_some edition b.kind b.word b.rest b.begins)) (left b) cuts) s),
      rest_of Grow tt (λ b cuts. tokens_grow edition ((front ++ pieces) ++ b.word) b.rest ts (left b) cuts) s,
    )

pub places_grow : {D Document : Type 0} {language : Language D Document} {definitions : List D} (h : AreOfText language definitions) → Grow (places_of h.tokens)
places_grow h = last_grow h.before h.tokens (tokens_grow Current [] (chars h.text) (h.before ++ h.tokens) h.no_lone_return h.cut)
