-- Where the pairs of names and values are put, one after another: how far the places and the map of names go along.
use Rattle.std.proofs.Common.{length-append, ◌⊎◌, inl, inr, ◌≡◌, ℕ, suc, Bool, true, false, cond, List, [], ◌∷◌, ◌++◌, length, refl, sym, ap, ap₂, ◌∙◌, subst, Option, Some, None, slice_set, get_or, take, drop, append_assoc, ◌<◌, ◌+◌, arith, Bor, BTreeMap}
use Rattle.std.specs.Option.{option_map}
use Rattle.std.specs.Str.{bytes_eq}
use Rattle.std.specs.Cmp.Lexicographic.{same_text, slice_cmp}
use Rattle.std.specs.Ordering.{nat_cmp, is_eq}
use Rattle.std.proofs.Math.Seq.{take-suc, drop-cons}
use Rattle.std.proofs.lemmas.Map.Text.{is_eq-slice_cmp}
use Rattle.std.proofs.lemmas.Cmp.{nat_list_eq_equiv}
use Rattle.graphql_grammar.specs.reading.Fields.{put, put_all, place_among, places, place_in, found_at, Knows}

abbrev next : Option ℕ → Option ℕ
next place = option_map suc place

some-not-none : {A : Type 0} (a : A) → Some a ≡ None → ⊥
some-not-none a e = cc

not-next : (o : Option ℕ) → next o ≡ None → o ≡ None
not-next None e = refl
not-next (Some n) e = absurd (some-not-none (suc n) e)

-- a new name goes last
pub put-new : {A : Type 0} (front : List (List ℕ × A)) (p : List ℕ × A) → place_in front p.0 ≡ None → put front p ≡ front ++ p ∷ []
put-new [] p e = refl
put-new {A} (f ∷ fs) p e = go (put-new fs p) (bytes_eq p.0 f.0) e
  where
    go : (place_in fs p.0 ≡ None → put fs p ≡ fs ++ p ∷ []) → (w : Bool) → cond w (Some 0) (next (place_in fs p.0)) ≡ None → cond w ((f.0, p.1) ∷ fs) (f ∷ put fs p) ≡ f ∷ fs ++ p ∷ []
    go more true e = absurd (some-not-none {A = ℕ} 0 e)
    go more false e = ap (λ (l : List (List ℕ × A)). f ∷ l) (more (not-next (place_in fs p.0) e))

pub place-of-new : {A : Type 0} (front : List (List ℕ × A)) (p : List ℕ × A) (q : List ℕ) → place_in front p.0 ≡ None → place_in (put front p) q ≡ cond (bytes_eq p.0 q) (Some (length front)) (place_in front q)
place-of-new [] p q e = ap (λ (b : Bool). cond b (Some 0) None) (nat_list_eq_equiv.symm q p.0)
place-of-new {A} (f ∷ fs) p q e = go (place-of-new fs p q) (bytes_eq p.0 f.0) refl e (bytes_eq q f.0) refl
  where
    both : (b : Bool) (n : ℕ) (o : Option ℕ) → next (cond b (Some n) o) ≡ cond b (Some (suc n)) (next o)
    both true n o = refl
    both false n o = refl

    go : (place_in fs p.0 ≡ None → place_in (put fs p) q ≡ cond (bytes_eq p.0 q) (Some (length fs)) (place_in fs q)) → (w : Bool) → bytes_eq p.0 f.0 ≡ w → cond w (Some 0) (next (place_in fs p.0)) ≡ None → (v : Bool) → bytes_eq q f.0 ≡ v → place_in (cond w ((f.0, p.1) ∷ fs) (f ∷ put fs p)) q ≡ cond (bytes_eq p.0 q) (Some (suc (length fs))) (cond v (Some 0) (next (place_in fs q)))
    go more true h e v k = absurd (some-not-none {A = ℕ} 0 e)
    go more false h e true k = rw (k, subst (λ (m : List ℕ). bytes_eq p.0 m ≡ false) (sym (same_text q f.0 (sym k))) h) refl
    go more false h e false k = rw k (ap next (more (not-next (place_in fs p.0) e)) ∙ both (bytes_eq p.0 q) (length fs) (place_in fs q))

-- a known name keeps its place
pub place-of-known : {A : Type 0} (front : List (List ℕ × A)) (p : List ℕ × A) (q : List ℕ) (n : ℕ) → place_in front p.0 ≡ Some n → place_in (put front p) q ≡ place_in front q
place-of-known [] p q n e = absurd (some-not-none n (sym e))
place-of-known {A} (f ∷ fs) p q n e = go (place-of-known fs p q) (place_in fs p.0) refl (bytes_eq p.0 f.0) e
  where
    go : ((n : ℕ) → place_in fs p.0 ≡ Some n → place_in (put fs p) q ≡ place_in fs q) → (o : Option ℕ) → place_in fs p.0 ≡ o → (w : Bool) → cond w (Some 0) (next (place_in fs p.0)) ≡ Some n → place_in (cond w ((f.0, p.1) ∷ fs) (f ∷ put fs p)) q ≡ cond (bytes_eq q f.0) (Some 0) (next (place_in fs q))
    go more o h true e = refl
    go more None h false e = absurd (some-not-none n (sym (sym (ap next h) ∙ e)))
    go more (Some m) h false e = ap (λ (o : Option ℕ). cond (bytes_eq q f.0) (Some 0) (next o)) (more m h)

pub as-many : {A : Type 0} (front : List (List ℕ × A)) (p : List ℕ × A) (n : ℕ) → place_in front p.0 ≡ Some n → length (put front p) ≡ length front
as-many [] p n e = absurd (some-not-none n (sym e))
as-many {A} (f ∷ fs) p n e = go (as-many fs p) (place_in fs p.0) refl (bytes_eq p.0 f.0) e
  where
    go : ((n : ℕ) → place_in fs p.0 ≡ Some n → length (put fs p) ≡ length fs) → (o : Option ℕ) → place_in fs p.0 ≡ o → (w : Bool) → cond w (Some 0) (next (place_in fs p.0)) ≡ Some n → length (cond w ((f.0, p.1) ∷ fs) (f ∷ put fs p)) ≡ suc (length fs)
    go more o h true e = refl
    go more None h false e = absurd (some-not-none n (sym (sym (ap next h) ∙ e)))
    go more (Some m) h false e = ap suc (more m h)

-- ---- how many stand before a name

pub place-of : {A : Type 0} (front : List (List ℕ × A)) (name : List ℕ) (n : ℕ) → place_in front name ≡ Some n → n ≡ place_among front name
place-of [] name n e = absurd (some-not-none n (sym e))
place-of {A} (f ∷ fs) name n e = go (place-of fs name) (place_in fs name) refl (bytes_eq name f.0) e
  where
    inside : (a b : ℕ) → Some a ≡ Some b → a ≡ b
    inside a b e = cc

    go : ((n : ℕ) → place_in fs name ≡ Some n → n ≡ place_among fs name) → (o : Option ℕ) → place_in fs name ≡ o → (w : Bool) → cond w (Some 0) (next (place_in fs name)) ≡ Some n → n ≡ cond w 0 (suc (place_among fs name))
    go more o h true e = sym (inside 0 n e)
    go more None h false e = absurd (some-not-none n (sym (sym (ap next h) ∙ e)))
    go more (Some m) h false e = sym (inside (suc m) n (sym (ap next h) ∙ e)) ∙ ap suc (more m h)

pub all-before : {A : Type 0} (front : List (List ℕ × A)) (name : List ℕ) → place_in front name ≡ None → length front ≡ place_among front name
all-before [] name e = refl
all-before {A} (f ∷ fs) name e = go (all-before fs name) (bytes_eq name f.0) e
  where
    go : (place_in fs name ≡ None → length fs ≡ place_among fs name) → (w : Bool) → cond w (Some 0) (next (place_in fs name)) ≡ None → suc (length fs) ≡ cond w 0 (suc (place_among fs name))
    go more true e = absurd (some-not-none {A = ℕ} 0 e)
    go more false e = ap suc (more (not-next (place_in fs name) e))

-- ---- the pair that stands there takes the value

pub put-there : {A : Type 0} (l : List (List ℕ × A)) (p f : List ℕ × A) → place_among l p.0 < length l → f ≡ get_or l (place_among l p.0) f → slice_set l (place_among l p.0) (f.0, p.1) ≡ put l p
put-there [] p f h e = absurd (omega (arith, h))
put-there {A} (g ∷ gs) p f h e = go (put-there gs p f) (bytes_eq p.0 g.0) h e
  where
    go : (place_among gs p.0 < length gs → f ≡ get_or gs (place_among gs p.0) f → slice_set gs (place_among gs p.0) (f.0, p.1) ≡ put gs p) → (w : Bool) → cond w 0 (suc (place_among gs p.0)) < suc (length gs) → f ≡ get_or (g ∷ gs) (cond w 0 (suc (place_among gs p.0))) f → slice_set (g ∷ gs) (cond w 0 (suc (place_among gs p.0))) (f.0, p.1) ≡ cond w ((g.0, p.1) ∷ gs) (g ∷ put gs p)
    go more true h e = ap (λ (x : List ℕ × A). (x.0, p.1) ∷ gs) e
    go more false h e = ap (λ (l : List (List ℕ × A)). g ∷ l) (more (omega (arith, h)) e)

pub put-last : {A : Type 0} (l : List (List ℕ × A)) (p : List ℕ × A) → (place_among l p.0 < length l → ⊥) → l ++ p ∷ [] ≡ put l p
put-last [] p h = refl
put-last {A} (g ∷ gs) p h = go (put-last gs p) (bytes_eq p.0 g.0) h
  where
    go : ((place_among gs p.0 < length gs → ⊥) → gs ++ p ∷ [] ≡ put gs p) → (w : Bool) → (cond w 0 (suc (place_among gs p.0)) < suc (length gs) → ⊥) → g ∷ gs ++ p ∷ [] ≡ cond w ((g.0, p.1) ∷ gs) (g ∷ put gs p)
    go more true h = absurd (h (omega arith))
    go more false h = ap (λ (l : List (List ℕ × A)). g ∷ l) (more (λ k. h (omega (arith, k))))

pub put-at-place : {A : Type 0} (l : List (List ℕ × A)) (p f : List ℕ × A) (n : ℕ) → n ≡ place_among l p.0 → n < length l → f ≡ get_or l n f → slice_set l n (f.0, p.1) ≡ put l p
put-at-place {A} l p f n is h e = ap (λ n. slice_set l n (f.0, p.1)) is ∙ put-there l p f (subst (λ n. n < length l) is h) (e ∙ ap (λ n. get_or l n f) is)

pub put-at-end : {A : Type 0} (l : List (List ℕ × A)) (p : List ℕ × A) (n : ℕ) → n ≡ place_among l p.0 → (n < length l → ⊥) → l ++ p ∷ [] ≡ put l p
put-at-end {A} l p n is h = put-last l p (λ k. h (subst (λ n. n < length l) (sym is) k))

-- ---- one more

pub put-all-one-more : {A : Type 0} (front ps : List (List ℕ × A)) (p : List ℕ × A) → put_all front (ps ++ p ∷ []) ≡ put (put_all front ps) p
put-all-one-more front [] p = refl
put-all-one-more front (q ∷ qs) p = put-all-one-more (put front q) qs p

-- the place of one more pair is found
place-found : {A : Type 0} (all found found' : List ℕ) (front rest : List (List ℕ × A)) (p : List ℕ × A) (n : ℕ) → found ++ places front (p ∷ rest) ≡ all → n ≡ place_among front p.0 → found' ≡ found ++ n ∷ [] → found' ++ places (put front p) rest ≡ all
place-found {A} all found found' front rest p n e is more =
    ap (λ (l : List ℕ). l ++ places (put front p) rest) more ∙ append_assoc found (n ∷ []) (places (put front p) rest) ∙ ap (λ n. found ++ n ∷ places (put front p) rest) is ∙ e

-- what the loop over the fields keeps, after so many of them
abbrev pub IsFound : {A : Type 0} → List (List ℕ × A) → BTreeMap (Bor (List ℕ)) ℕ → List ℕ → ℕ → Type 0
IsFound fields known found i =
    let front = put_all [] (take i fields) in
    Knows known front × (length known.entries ≡ length front) × (found ++ places front (drop i fields) ≡ places [] fields)

module _ {A : Type 0} (fields : List (List ℕ × A)) (known : BTreeMap (Bor (List ℕ)) ℕ) (found found' : List ℕ) (i n : ℕ) (p : List ℕ × A) (inside : i < length fields) (is : p ≡ get_or fields i p) (kept : IsFound fields known found i) (more : found' ≡ found ++ n ∷ []) where
  abbrev front : List (List ℕ × A)
  front = put_all [] (take i fields)

  next-place : i + 1 ≡ suc i
  next-place = omega arith

  up-to : put_all [] (take (i + 1) fields) ≡ put front p
  up-to = ap (λ n. put_all [] (take n fields)) next-place ∙ ap (put_all []) (take-suc fields i p inside ∙ ap (λ (q : List ℕ × A). take i fields ++ q ∷ []) (sym is)) ∙ put-all-one-more [] (take i fields) p

  after : drop i fields ≡ p ∷ drop (i + 1) fields
  after = drop-cons fields i p inside ∙ ap (λ (q : List ℕ × A). q ∷ drop (suc i) fields) (sym is) ∙ ap (λ n. p ∷ drop n fields) (sym next-place)

  found-so : n ≡ place_among front p.0 → found' ++ places (put front p) (drop (i + 1) fields) ≡ places [] fields
  found-so e = place-found (places [] fields) found found' front (drop (i + 1) fields) p n (ap (λ (l : List (List ℕ × A)). found ++ places front l) (sym after) ∙ kept.2) e more

  pub known-one-more : found_at known p.0 ≡ Some n → IsFound fields known found' (i + 1)
  known-one-more e =
      let at = sym (kept.0 p.0) ∙ e in
      subst (λ (l : List (List ℕ × A)). Knows known l × (length known.entries ≡ length l) × (found' ++ places l (drop (i + 1) fields) ≡ places [] fields)) (sym up-to)
      (λ q. kept.0 q ∙ sym (place-of-known front p q n at), kept.1 ∙ sym (as-many front p n at), found-so (place-of front p.0 n at))

  pub new-one-more : (known' : BTreeMap (Bor (List ℕ)) ℕ) → found_at known p.0 ≡ None → n ≡ length known.entries → length known'.entries ≡ length known.entries + 1
      → ((name : List ℕ) → found_at known' name ≡ cond (is_eq (slice_cmp nat_cmp p.0 name)) (Some n) (found_at known name))
      → IsFound fields known' found' (i + 1)
  new-one-more known' e last longer holds =
      let at = sym (kept.0 p.0) ∙ e in
      let size : length (put front p) ≡ length front + 1 = ap length (put-new front p at) ∙ length-append front (p ∷ []) in
      subst (λ (l : List (List ℕ × A)). Knows known' l × (length known'.entries ≡ length l) × (found' ++ places l (drop (i + 1) fields) ≡ places [] fields)) (sym up-to) (
        λ name. holds name ∙ ap₂ (λ (b : Bool) (o : Option ℕ). cond b (Some n) o) (is_eq-slice_cmp p.0 name) (kept.0 name)
            ∙ ap (λ (n : ℕ). cond (bytes_eq p.0 name) (Some n) (place_in front name)) (last ∙ kept.1) ∙ sym (place-of-new front p name at),
        omega (arith, longer, kept.1, size),
        found-so (last ∙ kept.1 ∙ all-before front p.0 at),
      )

-- ---- the pairs are put where the places say

first-place : {A : Type 0} (merged rest : List (List ℕ × A)) (p : List ℕ × A) (n : ℕ) (ns : List ℕ) → n ∷ ns ≡ places merged (p ∷ rest) → (n ≡ place_among merged p.0) × (ns ≡ places (put merged p) rest)
first-place merged rest p n ns e = (cc, cc)

-- at the end of the pairs, or of their places, all are put
pub all-put : {A : Type 0} (merged rest : List (List ℕ × A)) (ns : List ℕ) (all : List (List ℕ × A)) → put_all merged rest ≡ all → ns ≡ places merged rest → (length rest ≡ 0) ⊎ (length ns ≡ 0) → merged ≡ all
all-put merged [] ns all e is none = e
all-put merged (p ∷ ps) ns all e is (inl none) = absurd (omega (arith, none))
all-put merged (p ∷ ps) ns all e is (inr none) = absurd (omega (arith, none, ap length is))

pub put-next : {A : Type 0} (merged rest after : List (List ℕ × A)) (p : List ℕ × A) (n : ℕ) (ns later : List ℕ) → ns ≡ places merged rest → rest ≡ p ∷ after → ns ≡ n ∷ later → (n ≡ place_among merged p.0) × (later ≡ places (put merged p) after)
put-next merged rest after p n ns later e more next = first-place merged after p n later (sym next ∙ e ∙ ap (places merged) more)
