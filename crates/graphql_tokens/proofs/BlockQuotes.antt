-- `\"""` in raw text.
use Rattle.std.proofs.Common.{◌≡◌, ℕ, zero, suc, ◌+◌, ◌-◌, ◌≤◌, ◌<◌, Bool, true, false, cond, ◌⊎◌, List, [], ◌∷◌, ◌++◌, length, take, drop, get_or, refl, sym, ap, ◌∙◌, subst, inl, inr, arith, append_assoc}
use Rattle.std.proofs.lemmas.Bool.{cases_lt}
use Rattle.std.proofs.lemmas.Bool.Decides.{nat_tests}
use Rattle.std.proofs.lemmas.List.{append-nil, drop-drop, drop_all}
use Rattle.std.proofs.lemmas.Str.{IsCharBoundary-before_ascii, IsCharBoundary-after_ascii, IsCharBoundary-end}
use Rattle.std.specs.Str.{IsUtf8, IsCharBoundary}
use Rattle.graphql_tokens.proofs.Scan.{get_or-drop_0}
use Rattle.graphql_tokens.specs.tokens.BlockText.{begins_quotes, unquoted}
use Rattle.graphql_tokens.specs.inner.Blocks.{IsUnquotedBetween}

pub unquoted_front : (n : ℕ) (xs : List ℕ) → ((k : ℕ) → k < n → begins_quotes (drop k xs) ≡ false) → unquoted xs ≡ take n xs ++ unquoted (drop n xs)
unquoted_front zero xs h = refl
unquoted_front (suc n) [] h = refl
unquoted_front (suc n) (x ∷ xs) h =
    ap (λ b. cond b (unquoted xs) (x ∷ unquoted xs)) (h 0 (omega arith)) ∙ ap (λ y. x ∷ y) (unquoted_front n xs (λ k l. h (suc k) (omega arith)))

pub unquoted_run : (bs : List ℕ) (at end : ℕ) → IsUnquotedBetween bs at end → at ≤ end → unquoted (drop at bs) ≡ take (end - at) (drop at bs) ++ unquoted (drop end bs)
unquoted_run bs at end h l =
    let n = end - at in
    let e : at + n ≡ end = omega arith in
    unquoted_front n (drop at bs) (λ k m. ap begins_quotes (drop-drop k at bs) ∙ h (at + k) (omega arith) (omega arith))
    ∙ ap (λ x. take n (drop at bs) ++ unquoted x) (drop-drop n at bs ∙ ap (λ i. drop i bs) e)

unquoted_at : (t : List ℕ) → begins_quotes t ≡ true → unquoted t ≡ unquoted (drop 1 t)
unquoted_at [] h = absurd (cc)
unquoted_at (c ∷ cs) h = ap (λ b. cond b (unquoted cs) (c ∷ unquoted cs)) h

pub unquoted_quotes : (bs : List ℕ) (at : ℕ) → begins_quotes (drop at bs) ≡ true → unquoted (drop at bs) ≡ unquoted (drop (at + 1) bs)
unquoted_quotes bs at h = unquoted_at (drop at bs) h ∙ ap unquoted (drop-drop 1 at bs)

-- ---- what the code adds

quotes_slash : (bs : List ℕ) (at : ℕ) → begins_quotes (drop at bs) ≡ true → get_or bs at 0 ≡ 92
quotes_slash bs at h =
    let e : get_or (drop at bs) 0 0 ≡ 92 = grind (arith, nat_tests) in
    sym (get_or-drop_0 bs at) ∙ e

pub quotes_boundary : (bs : List ℕ) (end : ℕ) → end ≤ length bs → (end < length bs → begins_quotes (drop end bs) ≡ true) → IsCharBoundary bs end
quotes_boundary bs end w h = by (cases_lt end (length bs))
  where
    by : (end < length bs) ⊎ (length bs ≤ end) → IsCharBoundary bs end
    by (inl l) = let e = quotes_slash bs end (h l) in IsCharBoundary-before_ascii bs end l (omega arith)
    by (inr g) = let same : length bs ≡ end = omega arith in subst (λ (k : ℕ). IsCharBoundary bs k) same (IsCharBoundary-end bs)

pub after_slash : (bs : List ℕ) (end : ℕ) → IsUtf8 bs → end < length bs → begins_quotes (drop end bs) ≡ true → IsCharBoundary bs (end + 1)
after_slash bs end u l h = let e = quotes_slash bs end h in IsCharBoundary-after_ascii bs end u l (omega arith)

pub push_run : (bs old value new run : List ℕ) (at end : ℕ) → value ++ unquoted (drop at bs) ≡ old → IsUnquotedBetween bs at end → at ≤ end
    → run ≡ take (end - at) (drop at bs) → new ≡ value ++ run → new ++ unquoted (drop end bs) ≡ old
push_run bs old value new run at end h none l r n =
    ap (λ x. x ++ unquoted (drop end bs)) n ∙ append_assoc value run (unquoted (drop end bs))
    ∙ ap (λ x. value ++ (x ++ unquoted (drop end bs))) r ∙ ap (λ x. value ++ x) (sym (unquoted_run bs at end none l)) ∙ h

-- at the end nothing is left
pub push_end : (bs old new : List ℕ) (end : ℕ) → new ++ unquoted (drop end bs) ≡ old → length bs ≤ end → new ≡ old
push_end bs old new end h l = sym (append-nil new) ∙ ap (λ x. new ++ unquoted x) (sym (drop_all end bs l)) ∙ h

-- quotes without their backslash are no longer
pub unquoted_fits : (cs : List ℕ) → length (unquoted cs) ≤ length cs
unquoted_fits [] = omega arith
unquoted_fits (c ∷ cs) = by (begins_quotes (c ∷ cs)) (unquoted_fits cs)
  where
    by : (b : Bool) → length (unquoted cs) ≤ length cs → length (cond b (unquoted cs) (c ∷ unquoted cs)) ≤ length (c ∷ cs)
    by true h = omega (arith, h)
    by false h = omega (arith, h)
