-- `tokens` is the one list that `Cuts` relates to a text.
use Rattle.std.proofs.Common.{◌≡◌, ◌≢◌, ℕ, zero, suc, ◌+◌, ◌≤◌, ◌<◌, Bool, true, false, cond, ◌⊎◌, List, [], ◌∷◌, ◌++◌, length, drop, refl, sym, ap, ◌∙◌, arith, inl, inr, subst, length-append}
use Rattle.std.proofs.Math.Seq.{drop-nil}
use Rattle.std.specs.List.{concat}
use Rattle.graphql_tokens.specs.tokens.Edition.{Edition, Former, Current}
use Rattle.graphql_tokens.specs.tokens.Spelling.{Begins}
use Rattle.graphql_tokens.specs.tokens.Token.{Token}
use Rattle.graphql_tokens.specs.tokens.Cuts.{token, is_last, Cuts, GoesOn, HasNoToken, TokenStands, EndStands, FaultStands, EndsOnce, HasNoFault}
use Rattle.graphql_tokens.specs.inner.Reading.{skip, next, before, tokens_from, tokens}
use Rattle.graphql_tokens.specs.declared.lexer.TokenKind.{TokenKind}
use Rattle.graphql_tokens.specs.declared.lexer.TokenKind.TheVariants.{Fault, End}
use Rattle.graphql_tokens.proofs.Skips.{skip_skips, IsRest, skip_rests, skip_rest, skip_pieces, before_is}
use Rattle.graphql_tokens.proofs.Nexts.{IsNext, next_is, next_only, begins_rest, begins_goes_on, begins_some, begins_later}

-- ---- `tokens` is related to the text

goes_on : (after : List ℕ) → after ≢ [] → IsRest after → GoesOn after
goes_on [] some r = absurd (some refl)
goes_on (c ∷ cs) some r = r

no_token : (after : List ℕ) → (next after).0 ≡ Fault → HasNoToken Current after
no_token after f kind w rest is b =
    let only = next_only kind w rest b in
    let same : kind ≡ Fault = ap (λ t. t.0) (sym only) ∙ ap (λ a. (next a).0) (sym is) ∙ f in
    let last = begins_goes_on Current kind w rest b in
    let other : is_last kind ≡ true = ap is_last same in
    absurd cc

-- what `Cuts` says after the ignored text
abbrev pub Stands : Edition → List ℕ → List ℕ → Token → List Token → Type 0
Stands edition here after t ts =
    ((first : TokenStands edition here after t) × Cuts edition (here ++ first.word) first.rest ts)
    ⊎ (EndStands here after t × (ts ≡ []))
    ⊎ (FaultStands edition here after t × (ts ≡ []))

before_all : (text : List ℕ) → before text text ≡ []
before_all text = before_is text [] text refl

-- what comes after a token is shorter
shorter : (after w rest : List ℕ) (kind : TokenKind) → after ≡ w ++ rest → Begins Current kind w rest → length rest < length after
shorter after w rest kind whole b = omega (arith, ap length whole, length-append w rest, begins_some Current kind w rest b)

cuts_after_token : (n : ℕ) (here after rest : List ℕ) (kind : TokenKind) → IsNext after kind rest → IsRest after → (kind ≡ Fault → HasNoToken Current after)
    → ((h r : List ℕ) → length r < length after → Cuts Current h r (tokens_from n h r))
    → Stands Current here after (token kind here (before after rest)) (cond (is_last kind) [] (tokens_from n (here ++ before after rest) rest))
cuts_after_token n here after rest kind (inl f) r lacks ih =
    let w : before after rest ≡ f.word = before_is after f.word rest f.whole in
    let l : is_last kind ≡ false = begins_goes_on Current kind f.word rest f.begins in
    rw (w, l) (inl (record { kind = kind; word = f.word; rest = rest; whole = f.whole; begins = f.begins; is = refl }, ih (here ++ f.word) rest (shorter after f.word rest kind f.whole f.begins)))
cuts_after_token n here after rest kind (inr (inl e)) r lacks ih =
    let w : before after rest ≡ [] = ap (λ x. before x rest) (e.0 ∙ sym e.2) ∙ before_all rest in
    rw (w, e.1) (inr (inl (record { ends = e.0; is = refl }, refl)))
cuts_after_token n here after rest kind (inr (inr e)) r lacks ih =
    let w : before after rest ≡ [] = ap (before after) e.2 ∙ before_all after in
    let no = lacks e.1 in
    rw (w, e.1) (inr (inr (record { goes_on = goes_on after e.0 r; none = no; is = refl }, refl)))

pub cuts_from : (n : ℕ) (front text : List ℕ) → length text < n → Cuts Current front text (tokens_from n front text)
unfolding tokens_from
cuts_from zero front text h = absurd (omega arith)
cuts_from (suc n) front text h =
    let s = skip_skips text in
    let after = skip text in
    let t = next after in
    let here : before text after ≡ concat s.pieces = before_is text (concat s.pieces) after s.whole in
    let long : length after ≤ length text = omega (arith, ap length s.whole, length-append (concat s.pieces) after) in
    let b = cuts_after_token n (front ++ before text after) after t.1 t.0 (next_is after) (skip_rests text) (no_token after) (λ f r l. cuts_from n f r (omega arith)) in
    let P : List ℕ → Type 0 = λ w. Stands Current (front ++ w) after (token t.0 (front ++ before text after) (before after t.1)) (cond (is_last t.0) [] (tokens_from n ((front ++ before text after) ++ before after t.1) t.1)) in
    (record { pieces = s.pieces; after = after; whole = s.whole; ignored = s.ignored }, subst P here b)

-- ---- and no other list is

-- what comes after the ignored text begins as it should
stands_rest : (edition : Edition) (here after : List ℕ) (t : Token) (ts : List Token) → Stands edition here after t ts → IsRest after
stands_rest edition here after t ts (inl b) = let r = begins_rest edition b.0.kind b.0.word b.0.rest b.0.begins in rw b.0.whole r
stands_rest edition here after t ts (inr (inl b)) = rw b.0.ends tt
stands_rest edition here after t ts (inr (inr b)) = by after b.0.goes_on
  where
    by : (a : List ℕ) → GoesOn a → IsRest a
    by [] g = tt
    by (c ∷ cs) g = g

-- one step of `tokens_from`, where its parts are known
step_is : (n : ℕ) (front text front_part after w rest : List ℕ) (kind : TokenKind) → text ≡ front_part ++ after → skip text ≡ after → after ≡ w ++ rest → next after ≡ (kind, rest)
    → tokens_from (suc n) front text ≡ token kind (front ++ front_part) w ∷ cond (is_last kind) [] (tokens_from n ((front ++ front_part) ++ w) rest)
unfolding tokens_from
step_is n front text front_part after w rest kind whole s is e =
    let here : before text after ≡ front_part = before_is text front_part after whole in
    let word : before after rest ≡ w = before_is after w rest is in
    rw (s, e, here, word) refl

next_nil : next [] ≡ (End, [])
unfolding next
next_nil = refl

next_fault : (after : List ℕ) → GoesOn after → HasNoToken Current after → next after ≡ (Fault, after)
next_fault after g lacks = by (next after).0 (next after).1 refl (next_is after)
  where
    by : (kind : TokenKind) (rest : List ℕ) → (kind, rest) ≡ next after → IsNext after kind rest → next after ≡ (Fault, after)
    by kind rest e (inl f) = absurd (lacks kind f.word rest f.whole f.begins)
    by kind rest e (inr (inl i)) = absurd (rw i.0 at g)
    by kind rest e (inr (inr i)) = sym e ∙ ap (λ k. (k, rest)) i.1 ∙ ap (λ r. (Fault, r)) i.2

list_same : (t u : Token) (ts us : List Token) → t ≡ u → ts ≡ us → t ∷ ts ≡ u ∷ us
list_same t u ts us e f = cc

only_step : (n : ℕ) (front text front_part after : List ℕ) (t : Token) (ts : List Token) → text ≡ front_part ++ after → skip text ≡ after
    → ((f r : List ℕ) → length r < length after → Cuts Current f r ts → ts ≡ tokens_from n f r)
    → Stands Current (front ++ front_part) after t ts → t ∷ ts ≡ tokens_from (suc n) front text
only_step n front text front_part after t ts whole s ih (inl b) =
    let kind = b.0.kind in
    let w = b.0.word in
    let rest = b.0.rest in
    let more : ts ≡ tokens_from n ((front ++ front_part) ++ w) rest = ih ((front ++ front_part) ++ w) rest (shorter after w rest kind b.0.whole b.0.begins) b.1 in
    let all = step_is n front text front_part after w rest kind whole s b.0.whole (ap next b.0.whole ∙ next_only kind w rest b.0.begins) in
    let on = ap (λ l. cond l [] (tokens_from n ((front ++ front_part) ++ w) rest)) (begins_goes_on Current kind w rest b.0.begins) in
    list_same _ _ _ _ b.0.is (more ∙ sym on) ∙ sym all
only_step n front text front_part after t ts whole s ih (inr (inl b)) =
    list_same _ _ _ _ b.0.is b.1 ∙ sym (step_is n front text front_part after [] [] End whole s b.0.ends (ap next b.0.ends ∙ next_nil))
only_step n front text front_part after t ts whole s ih (inr (inr b)) =
    list_same _ _ _ _ b.0.is b.1 ∙ sym (step_is n front text front_part after [] after Fault whole s refl (next_fault after b.0.goes_on b.0.none))

pub only_from : (n : ℕ) (front text : List ℕ) (ts : List Token) → length text < n → Cuts Current front text ts → ts ≡ tokens_from n front text
only_from n front text [] h c = absurd c
only_from zero front text (t ∷ ts) h c = absurd (omega arith)
only_from (suc n) front text (t ∷ ts) h c =
    let pieces = c.0.pieces in
    let after = c.0.after in
    let s : skip text ≡ after = ap skip c.0.whole ∙ skip_pieces pieces after c.0.ignored ∙ skip_rest after (stands_rest Current (front ++ concat pieces) after t ts c.1) in
    let long : length after ≤ length text = omega (arith, ap length c.0.whole, length-append (concat pieces) after) in
    only_step n front text (concat pieces) after t ts c.0.whole s (λ f r l d. only_from n f r ts (omega arith) d) c.1

-- ---- the whole list

pub tokens_cuts : (front text : List ℕ) → Cuts Current front text (tokens front text)
unfolding tokens
tokens_cuts front text = cuts_from (suc (length text)) front text (omega arith)

pub tokens_only : (front text : List ℕ) (ts : List Token) → Cuts Current front text ts → ts ≡ tokens front text
unfolding tokens
tokens_only front text ts c = only_from (suc (length text)) front text ts (omega arith) c

-- ---- one token more

fuel : (n : ℕ) (front text : List ℕ) → length text < n → tokens_from n front text ≡ tokens front text
fuel n front text h = tokens_only front text (tokens_from n front text) (cuts_from n front text h)

last_end : (x y : List Token) → cond (is_last End) [] x ≡ cond (is_last End) [] y
last_end x y = refl

fuel_after : (m : ℕ) (here after rest : List ℕ) (kind : TokenKind) → IsNext after kind rest → length after ≤ m
    → cond (is_last kind) [] (tokens_from m here rest) ≡ cond (is_last kind) [] (tokens here rest)
fuel_after m here after rest kind (inl f) h =
    ap (cond (is_last kind) []) (fuel m here rest (omega (arith, shorter after f.word rest kind f.whole f.begins)))
fuel_after m here after rest kind (inr (inl e)) h = rw e.1 refl
fuel_after m here after rest kind (inr (inr e)) h = rw e.1 refl

pub tokens_step : (front text : List ℕ) → (let after = skip text in let here = front ++ before text after in let t = next after in let w = before after t.1 in
    tokens front text ≡ token t.0 here w ∷ cond (is_last t.0) [] (tokens (here ++ w) t.1))
unfolding tokens tokens_from
tokens_step front text =
    let after = skip text in
    let here = front ++ before text after in
    let t = next after in
    let w = before after t.1 in
    let s = skip_skips text in
    let long : length after ≤ length text = omega (arith, ap length s.whole, length-append (concat s.pieces) after) in
    ap (λ x. token t.0 here w ∷ x) (fuel_after (length text) (here ++ w) after t.1 t.0 (next_is after) long)

-- ---- laws of every list

cons_ends : (t : Token) (ts : List Token) → is_last t.bare.kind ≡ false → EndsOnce ts → EndsOnce (t ∷ ts)
cons_ends t [] l e = absurd e
cons_ends t (u ∷ us) l e = (l, e)

one_ends : (t : Token) (ts : List Token) → is_last t.bare.kind ≡ true → ts ≡ [] → EndsOnce (t ∷ ts)
one_ends t [] l e = l
one_ends t (u ∷ us) l e = absurd (cc)

ends_step : (edition : Edition) (here after : List ℕ) (t : Token) (ts : List Token) → ((f r : List ℕ) → Cuts edition f r ts → EndsOnce ts) → Stands edition here after t ts → EndsOnce (t ∷ ts)
ends_step edition here after t ts ih (inl b) = cons_ends t ts (ap (λ x. is_last x.bare.kind) b.0.is ∙ begins_goes_on edition b.0.kind b.0.word b.0.rest b.0.begins) (ih (here ++ b.0.word) b.0.rest b.1)
ends_step edition here after t ts ih (inr (inl b)) = one_ends t ts (ap (λ x. is_last x.bare.kind) b.0.is) b.1
ends_step edition here after t ts ih (inr (inr b)) = one_ends t ts (ap (λ x. is_last x.bare.kind) b.0.is) b.1

pub cuts_ends : (edition : Edition) (front text : List ℕ) (ts : List Token) → Cuts edition front text ts → EndsOnce ts
cuts_ends edition front text [] c = absurd c
cuts_ends edition front text (t ∷ ts) c = ends_step edition (front ++ concat c.0.pieces) c.0.after t ts (λ f r d. cuts_ends edition f r ts d) c.1

-- what is left of a list that ends once ends once, where something is left
pub ends_drop : (n : ℕ) (ts : List Token) → EndsOnce ts → drop n ts ≢ [] → EndsOnce (drop n ts)
ends_drop zero ts e some = e
ends_drop (suc n) [] e some = absurd e
ends_drop (suc n) (t ∷ []) e some = absurd (some (drop-nil n))
ends_drop (suc n) (t ∷ u ∷ ts) e some = ends_drop n (u ∷ ts) e.1 some

short_by : (b : Bool) (ts : List Token) (n : ℕ) → length ts ≤ n → length (cond b [] ts) ≤ n
short_by true ts n h = omega arith
short_by false ts n h = h

short_from : (n : ℕ) (front text : List ℕ) → length (tokens_from n front text) ≤ n
unfolding tokens_from
short_from zero front text = omega arith
short_from (suc n) front text =
    let after = skip text in
    let t = next after in
    let here = (front ++ before text after) ++ before after t.1 in
    let s = short_by (is_last t.0) (tokens_from n here t.1) n (short_from n here t.1) in
    omega arith

pub tokens_short : (front text : List ℕ) → length (tokens front text) ≤ length text + 1
unfolding tokens
tokens_short front text = omega (arith, short_from (suc (length text)) front text)

-- ---- editions

later_step : (here after : List ℕ) (t : Token) (ts : List Token) → t.bare.kind ≢ Fault → ((f r : List ℕ) → Cuts Former f r ts → Cuts Current f r ts)
    → Stands Former here after t ts → Stands Current here after t ts
later_step here after t ts proper ih (inl b) =
    let first = b.0 in
    let begins = begins_later first.kind first.word first.rest first.begins in
    inl (record { kind = first.kind; word = first.word; rest = first.rest; whole = first.whole; begins = begins; is = first.is }, ih (here ++ first.word) first.rest b.1)
later_step here after t ts proper ih (inr (inl b)) = inr (inl b)
later_step here after t ts proper ih (inr (inr b)) = absurd (proper (ap (λ x. x.bare.kind) b.0.is))

-- a text that was cut without a fault in the former edition is cut into the same tokens now
pub cuts_later : (front text : List ℕ) (ts : List Token) → HasNoFault ts → Cuts Former front text ts → Cuts Current front text ts
cuts_later front text [] n c = absurd c
cuts_later front text (t ∷ ts) n c =
    (c.0, later_step (front ++ concat c.0.pieces) c.0.after t ts n.0 (λ f r d. cuts_later f r ts n.1 d) c.1)
