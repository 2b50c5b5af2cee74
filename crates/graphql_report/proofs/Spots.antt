-- Places in a text that goes on after a front: those in what follows, and those in the whole.
use Rattle.std.proofs.Common.{◌≡◌, ℕ, ◌+◌, ◌-◌, ◌≤◌, Bool, true, false, cond, ◌⊎◌, inl, inr, List, [], ◌∷◌, ◌++◌, length, refl, sym, ap, ◌∙◌, subst, append_assoc, append-nil, length-append, arith}
use Rattle.graphql_tokens.specs.declared.pos.Pos.{Pos}
use Rattle.graphql_tokens.specs.tokens.Place.{place_after, is_line_feed, is_in_line}
use Rattle.graphql_tokens.proofs.Places.{line_push, column_push, line_bound}
use Rattle.std.specs.Prelude.{min, ◌^◌, ◌<◌}
use Rattle.std.proofs.lemmas.List.Sums.{suffix_len-le-length}

abbrev Columns : ℕ → ℕ → ℕ → ℕ → Type 0
Columns start here whole n = ((here ≡ 1 + n) × (whole ≡ start + n)) ⊎ ((here ≤ n) × (whole ≡ here))

-- one spot, after n characters of what follows: where that begins, the place in it, and the place in the whole
abbrev pub Spot : Pos → Pos → Pos → ℕ → Type 0
Spot start here whole n = (whole.line + 1 ≡ start.line + here.line) × Columns start.column here.column whole.column n

columns-push : (b : Bool) (start here whole next_here next_whole n m : ℕ) → Columns start here whole n → m ≡ n + 1 → next_here ≡ cond b (here + 1) 1 → next_whole ≡ cond b (whole + 1) 1 → Columns start next_here next_whole m
columns-push true start here whole h w n m (inl s) more e f = inl (omega (arith, s.0, e, more), omega (arith, s.1, f, more))
columns-push true start here whole h w n m (inr s) more e f = inr (omega (arith, s.0, e, more), omega (arith, s.1, e, f))
columns-push false start here whole h w n m s more e f = inr (omega (arith, e, more), f ∙ sym e)

spot-push : (front here : List ℕ) (c : ℕ) → Spot (place_after front) (place_after here) (place_after (front ++ here)) (length here)
    → Spot (place_after front) (place_after (here ++ c ∷ [])) (place_after (front ++ (here ++ c ∷ []))) (length (here ++ c ∷ []))
spot-push front here c s =
    let seam : (front ++ here) ++ c ∷ [] ≡ front ++ (here ++ c ∷ []) = append_assoc front here (c ∷ []) in
    let line : (place_after (front ++ (here ++ c ∷ []))).line ≡ (place_after (front ++ here)).line + cond (is_line_feed c) 1 0 = sym (ap (λ (l : List ℕ). (place_after l).line) seam) ∙ line_push (front ++ here) c in
    let column : (place_after (front ++ (here ++ c ∷ []))).column ≡ cond (is_in_line c) ((place_after (front ++ here)).column + 1) 1 = sym (ap (λ (l : List ℕ). (place_after l).column) seam) ∙ column_push (front ++ here) c in (
      omega (arith, line, line_push here c, s.0),
      columns-push (is_in_line c) (place_after front).column (place_after here).column (place_after (front ++ here)).column (place_after (here ++ c ∷ [])).column (place_after (front ++ (here ++ c ∷ []))).column (length here) (length (here ++ c ∷ [])) s.1 (length-append here (c ∷ [])) (column_push here c) column,
    )

spot-from : (front done here : List ℕ) → Spot (place_after front) (place_after done) (place_after (front ++ done)) (length done)
    → Spot (place_after front) (place_after (done ++ here)) (place_after (front ++ (done ++ here))) (length (done ++ here))
spot-from front done [] s = subst (λ (l : List ℕ). Spot (place_after front) (place_after l) (place_after (front ++ l)) (length l)) (sym (append-nil done)) s
spot-from front done (c ∷ here) s = subst (λ (l : List ℕ). Spot (place_after front) (place_after l) (place_after (front ++ l)) (length l)) (append_assoc done (c ∷ []) here) (spot-from front (done ++ c ∷ []) here (spot-push front done c s))

pub spot : (front here : List ℕ) → Spot (place_after front) (place_after here) (place_after (front ++ here)) (length here)
spot front here = spot-from front [] here (subst (λ (l : List ℕ). Spot (place_after front) (place_after []) (place_after l) 0) (sym (append-nil front)) (refl, inl (refl, omega arith)))

column_bound : (front : List ℕ) → (place_after front).column ≤ 1 + length front
column_bound front = omega (arith, suffix_len-le-length is_in_line front)

same : (p : Pos) (line column : ℕ) → line ≡ p.line → column ≡ p.column → ◌≡◌ {A = Pos} (record { line = line; column = column }) p
same p line column e f = ap {B = Pos} (λ n. record { line = n; column = column }) e ∙ ap {B = Pos} (λ n. record { line = p.line; column = n }) f

columns-first : (start here whole n : ℕ) → Columns start here whole n → start ≡ 1 → whole ≡ here
columns-first start here whole n (inl s) e = omega (arith, s.0, s.1, e)
columns-first start here whole n (inr s) e = s.1

-- where a line begins after the front: a place in what follows, told in the whole
pub to-text : (front here : List ℕ) (first less line : ℕ) (place : Pos) → ◌≡◌ {A = Pos} (place_after front) (record { line = first; column = 1 }) → length (front ++ here) + 1 < 2 ^ 64 → place ≡ place_after here
    → less ≡ first - 1 → line ≡ min (place.line + less) (2 ^ 64 - 1) → ◌≡◌ {A = Pos} (record { line = line; column = place.column }) (place_after (front ++ here))
to-text front here first less line place begins few is fewer e =
    let s = spot front here in
    let at : (place_after front).line ≡ first = ap (λ (p : Pos). p.line) begins in
    let told : place.line ≡ (place_after here).line = ap (λ (p : Pos). p.line) is in
    same (place_after (front ++ here)) line place.column (omega (arith, s.0, at, told, fewer, e, few, line_bound (front ++ here))) (ap (λ (p : Pos). p.column) is ∙ sym (columns-first (place_after front).column (place_after here).column (place_after (front ++ here)).column (length here) s.1 (ap (λ (p : Pos). p.column) begins)))

-- the column of an end, by whether what follows the front is on one line
ends-column : (start here whole n column : ℕ) → Columns start here whole n → whole < 2 ^ 64 → ((n < here) × (column ≡ min (start + (here - 1)) (2 ^ 64 - 1))) ⊎ ((here ≤ n) × (column ≡ here)) → column ≡ whole
ends-column start here whole n column (inl s) few (inl t) = omega (arith, s.0, s.1, t.1, few)
ends-column start here whole n column (inl s) few (inr t) = absurd (omega (arith, s.0, t.0))
ends-column start here whole n column (inr s) few (inl t) = absurd (omega (arith, s.0, t.0))
ends-column start here whole n column (inr s) few (inr t) = t.1 ∙ sym s.1

-- where what follows a front ends
pub ends : (front here : List ℕ) (less line column : ℕ) (start end : Pos) → length (front ++ here) + 1 < 2 ^ 64 → start ≡ place_after front → end ≡ place_after here
    → less ≡ end.line - 1 → line ≡ min (start.line + less) (2 ^ 64 - 1)
    → ((length here < end.column) × (column ≡ min (start.column + (end.column - 1)) (2 ^ 64 - 1))) ⊎ ((end.column ≤ length here) × (column ≡ end.column))
    → ◌≡◌ {A = Pos} (record { line = line; column = column }) (place_after (front ++ here))
ends front here less line column start end few begins is fewer e columns =
    let s = spot front here in
    let t : Spot start end (place_after (front ++ here)) (length here) = subst (λ (p : Pos). Spot start p (place_after (front ++ here)) (length here)) (sym is) (subst (λ (p : Pos). Spot p (place_after here) (place_after (front ++ here)) (length here)) (sym begins) s) in
    let some : 1 ≤ end.line = subst (λ (p : Pos). 1 ≤ p.line) (sym is) (omega arith) in
    same (place_after (front ++ here)) line column (omega (arith, t.0, some, fewer, e, few, line_bound (front ++ here)))
    (ends-column start.column end.column (place_after (front ++ here)).column (length here) column t.1 (omega (arith, few, column_bound (front ++ here))) columns)
