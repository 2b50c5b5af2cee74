-- Reading any number, as a loop does.
use Rattle.std.proofs.Common.{◌≡◌, ℕ, zero, suc, ◌<◌, true, false, cond, List, [], ◌∷◌, ◌++◌, length, refl, sym, ap, ◌∙◌, subst, append_assoc, append-nil, arith}
use Rattle.graphql_tokens.specs.tokens.Token.{Token}
use Rattle.graphql_reading.specs.grammar.Tests.{Test}
use Rattle.graphql_reading.specs.grammar.Limits.{Limits}
use Rattle.graphql_reading.specs.grammar.Relations.{Rel}
use Rattle.graphql_reading.specs.grammar.Fronts.{Verdict, syntax}
use Rattle.graphql_reading.specs.reading.Outcome.{Outcome, Read, Refused, Reader, ◌>>=◌, repeat_at, many_at, plus_at, with_front}
pub use Rattle.graphql_reading.specs.reading.Outcome.{Takes}
use Rattle.graphql_reading.proofs.Theory.{Exact, shrinks}
use Rattle.graphql_reading.proofs.ReadsExactly.{ReadsExactly, BeginsWith}

pub takes-one : {A : Type 0} {p : Limits → Rel A} {b : Limits} {f first : Test} {r : Reader A} → ReadsExactly p b f r → BeginsWith p first → (ts : List Token) (a : A) (rest : List Token) → r ts ≡ Read a rest → length rest < length ts
takes-one {p = p} {b = b} {f = f} {first = first} {r = r} exact leads ts a rest e = shrinks p first b f ts a rest leads.by (subst (Exact p b f ts) e (exact.at ts))

abbrev pub pair-read : {A : Type 0} → A → List A → List Token → Outcome (A × List A)
pair-read a b rest = Read (a, b) rest

abbrev pub cons-read : {A : Type 0} → A × List A → List Token → Outcome (List A)
cons-read x rest = Read (x.0 ∷ x.1) rest

abbrev cons-all : {A : Type 0} → Outcome (A × List A) → Outcome (List A)
cons-all o = o >>= λ x rest. cons-read x rest

abbrev after : {A : Type 0} → Outcome A → (List Token → Outcome (List A)) → Outcome (A × List A)
after o more = o >>= λ a rest. more rest >>= λ others rest'. pair-read a others rest'

after-same : {A : Type 0} (r : Reader A) → Takes r → (ts : List Token) (more again : List Token → Outcome (List A)) → ((rest : List Token) → length rest < length ts → more rest ≡ again rest) → (o : Outcome A) → r ts ≡ o → after o more ≡ after o again
after-same r takes ts more again same (Read a rest) e = ap (λ (k : Outcome (List _)). k >>= λ others rest'. pair-read a others rest') (same rest (takes ts a rest e))
after-same r takes ts more again same (Refused v rest) e = refl

repeat-fuel : {A : Type 0} (first : Test) (r : Reader A) → Takes r → (n m : ℕ) (ts : List Token) → length ts < n → length ts < m → repeat_at n first r ts ≡ repeat_at m first r ts
repeat-fuel first r takes zero m ts h k = absurd (omega (arith, h))
repeat-fuel first r takes (suc n) zero ts h k = absurd (omega (arith, k))
repeat-fuel first r takes (suc n) (suc m) [] h k = refl
repeat-fuel first r takes (suc n) (suc m) (t ∷ ts) h k =
    let same = after-same r takes (t ∷ ts) (repeat_at n first r) (repeat_at m first r) (λ rest less. repeat-fuel first r takes n m rest (omega (arith, h, less)) (omega (arith, k, less))) (r (t ∷ ts)) refl in
    ap (λ (k : Outcome (_ × List _)). cond (first t.bare) (cons-all k) (Read [] (t ∷ ts))) same

pub many-more : {A : Type 0} (first : Test) (r : Reader A) → Takes r → (t : Token) (ts : List Token) → first t.bare ≡ true → many_at first r (t ∷ ts) ≡ cons-all (after (r (t ∷ ts)) (many_at first r))
unfolding many_at
many-more first r takes t ts e =
    let n = length (t ∷ ts) in
    let same = after-same r takes (t ∷ ts) (repeat_at n first r) (many_at first r) (λ rest less. repeat-fuel first r takes n (suc (length rest)) rest less (omega arith)) (r (t ∷ ts)) refl in
    rw e (ap (λ (k : Outcome (_ × List _)). cons-all k) same)

pub many-stops : {A : Type 0} (first : Test) (r : Reader A) (t : Token) (ts : List Token) → first t.bare ≡ false → many_at first r (t ∷ ts) ≡ Read [] (t ∷ ts)
unfolding many_at
many-stops first r t ts e = rw e refl

pub many-plus : {A : Type 0} (first : Test) (r : Reader A) → Takes r → (t : Token) (ts : List Token) → first t.bare ≡ true → many_at first r (t ∷ ts) ≡ plus_at first r (t ∷ ts)
unfolding plus_at
many-plus first r takes t ts e = many-more first r takes t ts e

pub many-nothing : {A : Type 0} (first : Test) (r : Reader A) → many_at first r [] ≡ Refused syntax []
unfolding many_at
many-nothing first r = refl

-- what is read after front, and then closed
abbrev pub rest-of : {A B : Type 0} → (Test) → Reader A → (List A → Reader B) → List A → List Token → Outcome B
rest-of first r close front ts = with_front front (many_at first r ts) >>= close

pub rest-more : {A B : Type 0} (first : Test) (r : Reader A) (close : List A → Reader B) → Takes r → (front : List A) (t : Token) (ts : List Token) → first t.bare ≡ true → rest-of first r close front (t ∷ ts) ≡ (r (t ∷ ts) >>= λ a rest. rest-of first r close (front ++ a ∷ []) rest)
rest-more {A} {B} first r close takes front t ts e = ap (λ (k : Outcome (List A)). with_front front k >>= close) (many-more first r takes t ts e) ∙ go (r (t ∷ ts))
  where
    one-more : (a : A) (o : Outcome (List A)) → with_front front (cons-all (o >>= λ others rest'. pair-read a others rest')) ≡ with_front (front ++ a ∷ []) o
    one-more a (Read others rest) = ap (λ (l : List A). Read l rest) (sym (append_assoc front (a ∷ []) others))
    one-more a (Refused v rest) = refl

    go : (o : Outcome A) → (with_front front (cons-all (after o (many_at first r))) >>= close) ≡ (o >>= λ a rest. rest-of first r close (front ++ a ∷ []) rest)
    go (Read a rest) = ap (λ (k : Outcome (List A)). k >>= close) (one-more a (many_at first r rest))
    go (Refused v rest) = refl

pub rest-stops : {A B : Type 0} (first : Test) (r : Reader A) (close : List A → Reader B) (front : List A) (t : Token) (ts : List Token) → first t.bare ≡ false → rest-of first r close front (t ∷ ts) ≡ close front (t ∷ ts)
rest-stops {A} {B} first r close front t ts e = ap (λ (k : Outcome (List A)). with_front front k >>= close) (many-stops first r t ts e) ∙ ap (λ (l : List A). close l (t ∷ ts)) (append-nil front)

-- ---- one or more

pub two-fronts : {A : Type 0} (xs ys : List A) (o : Outcome (List A)) → with_front xs (with_front ys o) ≡ with_front (xs ++ ys) o
two-fronts xs ys (Read l rest) = ap (λ (l : List _). Read l rest) (sym (append_assoc xs ys l))
two-fronts xs ys (Refused v rest) = refl

plus-again : {A : Type 0} (first : Test) (r : Reader A) → Takes r → (ts : List Token) (a : A) (t : Token) (rest : List Token) → r ts ≡ Read a (t ∷ rest) → first t.bare ≡ true → plus_at first r ts ≡ with_front (a ∷ []) (plus_at first r (t ∷ rest))
unfolding plus_at
plus-again {A} first r takes ts a t rest e h =
    ap (λ (o : Outcome A). cons-all (after o (many_at first r))) e
    ∙ go (many_at first r (t ∷ rest))
    ∙ ap (λ (o : Outcome (List A)). with_front (a ∷ []) o) (many-more first r takes t rest h)
  where
    go : (o : Outcome (List A)) → cons-all (o >>= λ others rest'. pair-read a others rest') ≡ with_front (a ∷ []) o
    go (Read others rest) = refl
    go (Refused v rest) = refl

plus-once : {A : Type 0} (first : Test) (r : Reader A) (ts : List Token) (a : A) (t : Token) (rest : List Token) → r ts ≡ Read a (t ∷ rest) → first t.bare ≡ false → plus_at first r ts ≡ Read (a ∷ []) (t ∷ rest)
unfolding plus_at
plus-once {A} first r ts a t rest e h =
    ap (λ (o : Outcome A). cons-all (after o (many_at first r))) e
    ∙ ap (λ (o : Outcome (List A)). cons-all (o >>= λ others rest'. pair-read a others rest')) (many-stops first r t rest h)

plus-not : {A : Type 0} (first : Test) (r : Reader A) (ts : List Token) (v : Verdict) (rest : List Token) → r ts ≡ Refused v rest → plus_at first r ts ≡ Refused v rest
unfolding plus_at
plus-not {A} first r ts v rest e = ap (λ (o : Outcome A). cons-all (after o (many_at first r))) e

-- The loop has read `items`, and `whole` is what all of the tokens give.
-- It goes on with one more,
pub loop-goes : {A : Type 0} (first : Test) (r : Reader A) → Takes r → (whole : Outcome (List A)) (items : List A) (ts : List Token) (a : A) (t : Token) (rest : List Token) → whole ≡ with_front items (plus_at first r ts) → r ts ≡ Read a (t ∷ rest) → first t.bare ≡ true → whole ≡ with_front (items ++ a ∷ []) (plus_at first r (t ∷ rest))
loop-goes first r takes whole items ts a t rest kept e h = kept ∙ ap (with_front items) (plus-again first r takes ts a t rest e h) ∙ two-fronts items (a ∷ []) (plus_at first r (t ∷ rest))

-- or ends with one more,
pub loop-ends : {A : Type 0} (first : Test) (r : Reader A) (whole : Outcome (List A)) (items : List A) (ts : List Token) (a : A) (t : Token) (rest : List Token) → whole ≡ with_front items (plus_at first r ts) → r ts ≡ Read a (t ∷ rest) → first t.bare ≡ false → whole ≡ Read (items ++ a ∷ []) (t ∷ rest)
loop-ends first r whole items ts a t rest kept e h = kept ∙ ap (with_front items) (plus-once first r ts a t rest e h)

-- or is refused.
pub loop-stops : {A : Type 0} (first : Test) (r : Reader A) (whole : Outcome (List A)) (items : List A) (ts : List Token) (v : Verdict) (rest : List Token) → whole ≡ with_front items (plus_at first r ts) → r ts ≡ Refused v rest → whole ≡ Refused v rest
loop-stops first r whole items ts v rest kept e = kept ∙ ap (with_front items) (plus-not first r ts v rest e)

-- before the first
pub loop-starts : {A : Type 0} (o : Outcome (List A)) → o ≡ with_front [] o
loop-starts (Read l rest) = refl
loop-starts (Refused v rest) = refl
