-- Where the tokens of a text stand whose last character is a line feed: its end on a line of its own, and each other
-- token on a line before that one.
use Rattle.std.proofs.Common.{◌≡◌, ℕ, ◌+◌, ◌<◌, ◌≤◌, cond, false, true, ◌⊎◌, inl, inr, List, [], ◌∷◌, ◌++◌, length, refl, sym, ap, ◌∙◌, subst, append_assoc, append-nil, length-append, arith}
use Rattle.std.proofs.lemmas.List.Sums.{sum_by-append}
use Rattle.std.specs.List.{concat, count_by}
use Rattle.graphql_tokens.specs.tokens.Cuts.{is_last, Cuts, GoesOn}
use Rattle.graphql_tokens.specs.tokens.Edition.{Current}
use Rattle.graphql_tokens.specs.tokens.Place.{place_after, is_line_feed}
use Rattle.graphql_tokens.specs.tokens.Token.{Token}
use Rattle.graphql_tokens.specs.declared.lexer.TokenKind.{TokenKind}
use Rattle.graphql_tokens.specs.declared.lexer.TokenKind.TheVariants.{Fault, End}
use Rattle.graphql_tokens.proofs.Lists.{Stands}
use Rattle.graphql_tokens.proofs.Nexts.{begins_goes_on, begins_some}
use Rattle.graphql_report.specs.fronts.Front.{LastIsLineFeed}

abbrev pub line_feeds : List ℕ → ℕ
line_feeds text = count_by is_line_feed text

pub line_feeds-append : (xs ys : List ℕ) → line_feeds (xs ++ ys) ≡ line_feeds xs + line_feeds ys
line_feeds-append xs ys = sum_by-append (λ x. cond (is_line_feed x) 1 0) xs ys

-- each end of the text that is not empty has a line feed
pub record IsLined (text : List ℕ) : Type 0 where
  pub by : (x y : List ℕ) → text ≡ x ++ y → 1 ≤ length y → 1 ≤ line_feeds y

no-more : (x y : List ℕ) → [] ≡ x ++ y → 1 ≤ length y → ⊥
no-more [] [] e h = omega (arith, h)
no-more [] (c ∷ y) e h = cc
no-more (c ∷ x) y e h = cc

last-lined : (x y before : List ℕ) → before ++ 10 ∷ [] ≡ x ++ y → 1 ≤ length y → 1 ≤ line_feeds y
last-lined [] y before e h = let n = line_feeds-append before (10 ∷ []) in subst (λ (l : List ℕ). 1 ≤ line_feeds l) e (omega (arith, n))
last-lined (c ∷ x) y [] e h = absurd (no-more x y (cc) h)
last-lined (c ∷ x) y (b ∷ before) e h = last-lined x y before (cc) h

pub is-lined : (text : List ℕ) → LastIsLineFeed text → IsLined text
is-lined text last = record { by = λ x y e h. last-lined x y last.before (sym last.is ∙ e) h }

pub lined-after : (x y : List ℕ) → IsLined (x ++ y) → IsLined y
lined-after x y l = record { by = λ u v e h. l.by (x ++ u) v (ap (λ (w : List ℕ). x ++ w) e ∙ sym (append_assoc x u v)) h }

-- a token of a text: its end, at the place after all characters, or another token, on a line before that one
abbrev pub StandsIn : List ℕ → Token → Type 0
StandsIn text t = ((t.bare.kind ≡ End) × (t.pos ≡ place_after text)) ⊎ ((t.bare.kind ≡ End → ⊥) × (t.pos.line < (place_after text).line))

not-end : (kind : TokenKind) → is_last kind ≡ false → kind ≡ End → ⊥
not-end kind other e = let last : is_last kind ≡ true = ap is_last e in cc

fault-is-none : (t : Token) → t.bare.kind ≡ Fault → t.bare.kind ≡ End → ⊥
fault-is-none t fault e = cc

goes-on-some : (text : List ℕ) → GoesOn text → 1 ≤ length text
goes-on-some [] h = absurd h
goes-on-some (c ∷ cs) h = omega arith

-- what stands before something has fewer line feeds than the whole
on-a-line-before : (here after : List ℕ) → IsLined after → 1 ≤ length after → (place_after here).line < (place_after (here ++ after)).line
on-a-line-before here after l some = omega (arith, line_feeds-append here after, l.by [] after refl some)

-- the first token
first-stands : (here after : List ℕ) (t : Token) (ts : List Token) → IsLined after → Stands Current here after t ts → StandsIn (here ++ after) t
first-stands here after t ts l (inl b) =
    let other : t.bare.kind ≡ b.0.kind = ap (λ (x : Token). x.bare.kind) b.0.is in
    let some : 1 ≤ length after = subst (λ (w : List ℕ). 1 ≤ length w) (sym b.0.whole) (omega (arith, length-append b.0.word b.0.rest, begins_some Current b.0.kind b.0.word b.0.rest b.0.begins)) in
    inr ((λ e. not-end b.0.kind (begins_goes_on Current b.0.kind b.0.word b.0.rest b.0.begins) (sym other ∙ e)), subst (λ (x : Token). x.pos.line < (place_after (here ++ after)).line) (sym b.0.is) (on-a-line-before here after l some))
first-stands here after t ts l (inr (inl b)) =
    inl (ap (λ (x : Token). x.bare.kind) b.0.is, ap (λ (x : Token). x.pos) b.0.is ∙ ap place_after (sym (append-nil here) ∙ ap (λ (w : List ℕ). here ++ w) (sym b.0.ends)))
first-stands here after t ts l (inr (inr b)) =
    inr (fault-is-none t (ap (λ (x : Token). x.bare.kind) b.0.is), subst (λ (x : Token). x.pos.line < (place_after (here ++ after)).line) (sym b.0.is) (on-a-line-before here after l (goes-on-some after b.0.goes_on)))

nothing-after : (before : List Token) (t : Token) (after : List Token) → [] ≡ before ++ t ∷ after → ⊥
nothing-after [] t after e = cc
nothing-after (s ∷ before) t after e = cc

-- one of the others
later-stands : (here after : List ℕ) (s : Token) (ss : List Token) → IsLined after → Stands Current here after s ss
    → ((f r : List ℕ) → IsLined r → Cuts Current f r ss → (b : List Token) (t : Token) (a : List Token) → ss ≡ b ++ t ∷ a → StandsIn (f ++ r) t)
    → (b : List Token) (t : Token) (a : List Token) → ss ≡ b ++ t ∷ a → StandsIn (here ++ after) t
later-stands here after s ss l (inl m) ih b t a e =
    let whole : here ++ after ≡ (here ++ m.0.word) ++ m.0.rest = ap (λ (w : List ℕ). here ++ w) m.0.whole ∙ sym (append_assoc here m.0.word m.0.rest) in
    subst (λ (w : List ℕ). StandsIn w t) (sym whole) (ih (here ++ m.0.word) m.0.rest (lined-after m.0.word m.0.rest (subst IsLined m.0.whole l)) m.1 b t a e)
later-stands here after s ss l (inr (inl m)) ih b t a e = absurd (nothing-after b t a (sym m.1 ∙ e))
later-stands here after s ss l (inr (inr m)) ih b t a e = absurd (nothing-after b t a (sym m.1 ∙ e))

either-stands : (here after : List ℕ) (s : Token) (ss : List Token) → IsLined after → Stands Current here after s ss
    → ((f r : List ℕ) → IsLined r → Cuts Current f r ss → (b : List Token) (t : Token) (a : List Token) → ss ≡ b ++ t ∷ a → StandsIn (f ++ r) t)
    → (b : List Token) (t : Token) (a : List Token) → s ∷ ss ≡ b ++ t ∷ a → StandsIn (here ++ after) t
either-stands here after s ss l m ih [] t a e = let same : s ≡ t = cc in subst (StandsIn (here ++ after)) same (first-stands here after s ss l m)
either-stands here after s ss l m ih (r ∷ b) t a e = later-stands here after s ss l m ih b t a cc

pub each-stands : (front text : List ℕ) (ts : List Token) → IsLined text → Cuts Current front text ts → (b : List Token) (t : Token) (a : List Token) → ts ≡ b ++ t ∷ a → StandsIn (front ++ text) t
each-stands front text [] l c b t a e = absurd c
each-stands front text (s ∷ ss) l c b t a e =
    let here : List ℕ = front ++ concat c.0.pieces in
    let whole : front ++ text ≡ here ++ c.0.after = ap (λ (w : List ℕ). front ++ w) c.0.whole ∙ sym (append_assoc front (concat c.0.pieces) c.0.after) in
    subst (λ (w : List ℕ). StandsIn w t) (sym whole) (either-stands here c.0.after s ss (lined-after (concat c.0.pieces) c.0.after (subst IsLined c.0.whole l)) c.1 (λ f r k d. each-stands f r ss k d) b t a e)
