-- The fields of an object: pairs put in place one by one give the merged list.
use Rattle.std.proofs.Common.{◌≡◌, ℕ, ◌<◌, ◌≤◌, Bool, true, false, not, ◌&&◌, ◌||◌, cond, List, [], ◌∷◌, ◌++◌, map, length, take, drop, get_or, refl, sym, ap, ap₂, ◌∙◌, subst, append_assoc, append-nil, arith}
use Rattle.std.proofs.lemmas.List.{take-append-drop}
use Rattle.std.proofs.lemmas.List.Folds.{list_any-append, list_any_at}
use Rattle.std.specs.Cmp.Lexicographic.{same_text}
use Rattle.std.specs.List.{list_any}
use Rattle.std.specs.Str.{bytes_eq}
use Rattle.graphql_grammar.specs.grammar.Merged.{has_name, without, last_value, merged}
use Rattle.graphql_grammar.specs.reading.Fields.{are_distinct, put, put_all}

without-put-same : {A : Type 0} (n : List ℕ) (l : List (List ℕ × A)) (p : List ℕ × A) → bytes_eq p.0 n ≡ true → without n (put l p) ≡ without n l
without-put-same n [] p e = rw e refl
without-put-same {A} n (q ∷ qs) p e = go (without-put-same n qs p e) (bytes_eq p.0 q.0) refl (bytes_eq q.0 n) refl
  where
    go : without n (put qs p) ≡ without n qs → (w : Bool) → bytes_eq p.0 q.0 ≡ w → (v : Bool) → bytes_eq q.0 n ≡ v → without n (cond w ((q.0, p.1) ∷ qs) (q ∷ put qs p)) ≡ cond v (without n qs) (q ∷ without n qs)
    go more true h true k = rw k refl
    go more true h false k = absurd (differ (subst (λ (m : List ℕ). bytes_eq m n ≡ true) (same_text p.0 q.0 (sym h)) e) k)
      where
        differ : bytes_eq q.0 n ≡ true → bytes_eq q.0 n ≡ false → ⊥
        differ a b = cc
    go more false h true k = rw k more
    go more false h false k = rw k (ap (λ (l : List (List ℕ × A)). q ∷ l) more)

without-put-other : {A : Type 0} (n : List ℕ) (l : List (List ℕ × A)) (p : List ℕ × A) → bytes_eq p.0 n ≡ false → without n (put l p) ≡ put (without n l) p
without-put-other n [] p e = rw e refl
without-put-other {A} n (q ∷ qs) p e = go (without-put-other n qs p e) (bytes_eq p.0 q.0) refl (bytes_eq q.0 n) refl
  where
    go : without n (put qs p) ≡ put (without n qs) p → (w : Bool) → bytes_eq p.0 q.0 ≡ w → (v : Bool) → bytes_eq q.0 n ≡ v → without n (cond w ((q.0, p.1) ∷ qs) (q ∷ put qs p)) ≡ put (cond v (without n qs) (q ∷ without n qs)) p
    go more true h true k = absurd (differ (subst (λ (m : List ℕ). bytes_eq m n ≡ true) (sym (same_text p.0 q.0 (sym h))) k) e)
      where
        differ : bytes_eq p.0 n ≡ true → bytes_eq p.0 n ≡ false → ⊥
        differ a b = cc
    go more true h false k = rw (k, h) refl
    go more false h true k = rw k more
    go more false h false k = rw (k, h) (ap (λ (l : List (List ℕ × A)). q ∷ l) more)

last-after : {A : Type 0} (n : List ℕ) (a : A) (ps : List (List ℕ × A)) (p : List ℕ × A) → last_value n a (ps ++ p ∷ []) ≡ cond (has_name n p) p.1 (last_value n a ps)
last-after n a [] p = refl
last-after n a (q ∷ ps) p = last-after n (cond (has_name n q) q.1 a) ps p

-- one pair more
merged-after : {A : Type 0} (ps : List (List ℕ × A)) (p : List ℕ × A) → merged (ps ++ p ∷ []) ≡ put (merged ps) p
merged-after [] p = refl
merged-after {A} (q ∷ qs) p = ap₂ (λ (a : A) (l : List (List ℕ × A)). (q.0, a) ∷ l) (last-after q.0 q.1 qs p) (ap (without q.0) (merged-after qs p)) ∙ go (bytes_eq p.0 q.0) refl
  where
    go : (w : Bool) → bytes_eq p.0 q.0 ≡ w → (q.0, cond w p.1 (last_value q.0 q.1 qs)) ∷ without q.0 (put (merged qs) p) ≡ cond w ((q.0, p.1) ∷ without q.0 (merged qs)) ((q.0, last_value q.0 q.1 qs) ∷ put (without q.0 (merged qs)) p)
    go true e = ap (λ (l : List (List ℕ × A)). (q.0, p.1) ∷ l) (without-put-same q.0 (merged qs) p e)
    go false e = ap (λ (l : List (List ℕ × A)). (q.0, last_value q.0 q.1 qs) ∷ l) (without-put-other q.0 (merged qs) p e)

put-all-merged : {A : Type 0} (front ps : List (List ℕ × A)) → put_all (merged front) ps ≡ merged (front ++ ps)
put-all-merged front [] = ap merged (sym (append-nil front))
put-all-merged {A} front (p ∷ ps) = ap (λ (l : List (List ℕ × A)). put_all l ps) (sym (merged-after front p)) ∙ put-all-merged (front ++ p ∷ []) ps ∙ ap merged (append_assoc front (p ∷ []) ps)

pub merged-by-putting : {A : Type 0} (ps : List (List ℕ × A)) → put_all [] ps ≡ merged ps
merged-by-putting ps = put-all-merged [] ps

-- ---- distinct names

either-false : (a b : Bool) → (a || b) ≡ false → (a ≡ false) × (b ≡ false)
either-false true b e = absurd cc
either-false false b e = (refl, e)

both-true : (a b : Bool) → (not a && b) ≡ true → (a ≡ false) × (b ≡ true)
both-true true b e = absurd cc
both-true false b e = (refl, e)

without-none : {A : Type 0} (n : List ℕ) (ps : List (List ℕ × A)) → list_any (has_name n) ps ≡ false → without n ps ≡ ps
without-none n [] e = refl
without-none {A} n (p ∷ ps) e =
    let both = either-false (has_name n p) (list_any (has_name n) ps) e in
    rw both.0 (ap (λ (l : List (List ℕ × A)). p ∷ l) (without-none n ps both.1))

last-none : {A : Type 0} (n : List ℕ) (a : A) (ps : List (List ℕ × A)) → list_any (has_name n) ps ≡ false → last_value n a ps ≡ a
last-none n a [] e = refl
last-none n a (p ∷ ps) e =
    let both = either-false (has_name n p) (list_any (has_name n) ps) e in
    rw both.0 (last-none n a ps both.1)

-- they stay as they are
pub merged-distinct : {A : Type 0} (ps : List (List ℕ × A)) → are_distinct ps ≡ true → merged ps ≡ ps
merged-distinct [] e = refl
merged-distinct {A} (p ∷ ps) e =
    let both = both-true (list_any (has_name p.0) ps) (are_distinct ps) e in
    ap₂ (λ (a : A) (l : List (List ℕ × A)). (p.0, a) ∷ l) (last-none p.0 p.1 ps both.0) (ap (without p.0) (merged-distinct ps both.1) ∙ without-none p.0 ps both.0)

front-any : {A : Type 0} (p : A → Bool) (n : ℕ) (xs : List A) → list_any p (take n xs) ≡ true → list_any p xs ≡ true
front-any p n xs e = ap (list_any p) (sym (take-append-drop n xs)) ∙ list_any-append p (take n xs) (drop n xs) ∙ ap (λ (b : Bool). b || list_any p (drop n xs)) e

-- one of the others has the name of the first
pub named-twice : {A : Type 0} (ps : List (List ℕ × A)) (n i : ℕ) (first other : List ℕ × A) → 1 ≤ length ps → first ≡ get_or ps 0 first → i < length (take n (drop 1 ps)) → other ≡ get_or (take n (drop 1 ps)) i other → true ≡ bytes_eq other.0 first.0 → false ≡ are_distinct ps
named-twice [] n i first other some is within there same = absurd (omega (arith, some))
named-twice {A} (p ∷ ps) n i first other some is within there same =
    let here : has_name p.0 (get_or (take n ps) i other) ≡ true = ap (has_name p.0) (sym there) ∙ ap (λ (q : List ℕ × A). bytes_eq other.0 q.0) (sym is) ∙ sym same in
    let any : list_any (has_name p.0) ps ≡ true = front-any (has_name p.0) n ps (list_any_at (has_name p.0) (take n ps) i other within here) in
    rw any refl

-- ---- values may be replaced before or after, as by the trees for which they stand

abbrev on-values : {A B : Type 0} → (A → B) → List (List ℕ × A) → List (List ℕ × B)
on-values f ps = map (λ p. (p.0, f p.1)) ps

without-map : {A B : Type 0} (f : A → B) (n : List ℕ) (l : List (List ℕ × A)) → without n (on-values f l) ≡ on-values f (without n l)
without-map f n [] = refl
without-map {A} {B} f n (p ∷ ps) = go (without-map f n ps) (bytes_eq p.0 n)
  where
    go : without n (on-values f ps) ≡ on-values f (without n ps) → (w : Bool) → cond w (without n (on-values f ps)) ((p.0, f p.1) ∷ without n (on-values f ps)) ≡ on-values f (cond w (without n ps) (p ∷ without n ps))
    go more true = more
    go more false = ap (λ (l : List (List ℕ × B)). (p.0, f p.1) ∷ l) more

last-map : {A B : Type 0} (f : A → B) (n : List ℕ) (a : A) (l : List (List ℕ × A)) → last_value n (f a) (on-values f l) ≡ f (last_value n a l)
last-map f n a [] = refl
last-map {A} {B} f n a (p ∷ ps) = ap (λ (b : B). last_value n b (on-values f ps)) (go (bytes_eq p.0 n)) ∙ last-map f n (cond (has_name n p) p.1 a) ps
  where
    go : (w : Bool) → cond w (f p.1) (f a) ≡ f (cond w p.1 a)
    go true = refl
    go false = refl

pub merged-map : {A B : Type 0} (f : A → B) (l : List (List ℕ × A)) → merged (on-values f l) ≡ on-values f (merged l)
merged-map f [] = refl
merged-map {A} {B} f (p ∷ ps) = ap₂ (λ (b : B) (l : List (List ℕ × B)). (p.0, b) ∷ l) (last-map f p.0 p.1 ps) (ap (without p.0) (merged-map f ps) ∙ without-map f p.0 (merged ps))
