-- Bytes that are tested sixteen at once: a bit for each that is outside a class.
use Rattle.std.proofs.Common.{◌≡◌, ℕ, zero, suc, add-zero, get_or, ◌+◌, ◌-◌, ◌*◌, ◌%◌, ◌^◌, ◌<◌, ◌≤◌, Bool, true, false, not, cond, eqb, leb, List, [], ◌∷◌, map, length, drop, Fits, w8, refl, sym, ap, ap₂, ◌∙◌, arith}
use Rattle.std.proofs.lemmas.Bool.{agree_below, agree_below_at, eq-eqb, ne_eqb}
use Rattle.std.proofs.lemmas.List.{length-map}
use Rattle.std.proofs.lemmas.List.Folds.{prefix_len-append}
use Rattle.std.proofs.lemmas.List.Sums.{prefix_len-le-length, prefix_len_passes, prefix_len-drop_yes}
use Rattle.graphql_tokens.proofs.Scan.{get_or-drop_0}
use Rattle.std.proofs.lemmas.Simd.{map-map, mask_l-mod, chunk-drop, length-chunk, leading_from_mask_l, trailing_mask_l}
use Rattle.std.specs.List.{prefix_len}
use lib.Count.{count_trailing_zeros}
use lib.Lanes.{Each1, chunk, mask_l, top}
use Rattle.graphql_tokens.specs.inner.ByteClasses.{is_outside}

-- ---- from the lanes that a comparison leaves to the mask

-- what is taken from a byte, around the end
abbrev pub minus : ℕ → ℕ → ℕ
minus a b = (a + (256 - b)) % 256

-- all bits where the first is at most the second
abbrev pub at_most : ℕ → ℕ → ℕ
at_most a b = cond (leb a b) 255 0

each_lane : (f : ℕ → ℕ) (p : ℕ → Bool) → agree_below (λ x. top 7 (f x)) p 256 ≡ true → (v : List ℕ) → Each1 (Fits w8) v → map (λ x. top 7 (f x)) v ≡ map p v
each_lane f p all [] fits = refl
each_lane f p all (x ∷ xs) fits = ap₂ (λ b bs. b ∷ bs) (agree_below_at (λ y. top 7 (f y)) p 256 x all fits.0.fits) (each_lane f p all xs fits.1)

pub sixteen : (v : List ℕ) → length v ≡ 16 → length v ≤ 64
sixteen v e = omega arith

pub mask_of : (f : ℕ → ℕ) (p : ℕ → Bool) (v : List ℕ) {lanes : List ℕ} → length v ≤ 64 → Each1 (Fits w8) v → lanes ≡ map f v → agree_below (λ x. top 7 (f x)) p 256 ≡ true
    → mask_l (map (top 7) lanes) % 2 ^ 64 ≡ mask_l (map p v)
mask_of f p v few fits e all =
    ap (λ l. mask_l l % 2 ^ 64) (ap (map (top 7)) e ∙ map-map (top 7) f v ∙ each_lane f p all v fits)
    ∙ mask_l-mod (map p v) 64 (omega (arith, length-map v p))

-- ---- from the mask to the run

module _ (p : ℕ → Bool) where
  twice : (xs : List ℕ) → prefix_len (λ x. not (is_outside p x)) xs ≡ prefix_len p xs
  twice [] = refl
  twice (x ∷ xs) = by (p x) (twice xs)
    where
      by : (b : Bool) {m n : ℕ} → m ≡ n → cond (not (not b)) (1 + m) 0 ≡ cond b (1 + n) 0
      by true e = ap (λ k. 1 + k) e
      by false e = refl

  no_bit : (xs : List ℕ) → prefix_len p xs ≡ length xs → mask_l (map (is_outside p) xs) ≡ 0
  no_bit [] e = refl
  no_bit (x ∷ xs) e = by (p x) (prefix_len-le-length p xs) e (no_bit xs)
    where
      by : (b : Bool) {n l m : ℕ} → n ≤ l → cond b (1 + n) 0 ≡ suc l → (n ≡ l → m ≡ 0) → cond (not b) 1 0 + 2 * m ≡ 0
      by true le e h = let zero = h (omega arith) in omega arith
      by false le e h = absurd (omega arith)

  module _ (bs : List ℕ) (i n : ℕ) (room : i + n ≤ length bs) where
    split : prefix_len p (drop i bs) ≡ cond (eqb (prefix_len p (chunk i n bs)) (length (chunk i n bs))) (length (chunk i n bs) + prefix_len p (drop (i + n) bs)) (prefix_len p (chunk i n bs))
    split = ap (prefix_len p) (chunk-drop i n bs) ∙ prefix_len-append p (chunk i n bs) (drop (i + n) bs)

    -- no byte of the chunk is outside
    pub run_goes_on : mask_l (map (is_outside p) (chunk i n bs)) ≡ 0 → prefix_len p (drop i bs) ≡ n + prefix_len p (drop (i + n) bs)
    run_goes_on none =
        let c = chunk i n bs in
        let all = sym (twice c) ∙ leading_from_mask_l (is_outside p) c none in
        split ∙ ap (λ b. cond b (length c + prefix_len p (drop (i + n) bs)) (prefix_len p c)) (eq-eqb _ _ all) ∙ ap (λ k. k + prefix_len p (drop (i + n) bs)) (length-chunk i n bs room)

    -- the lowest bit is that of the first byte outside
    pub run_ends : n ≤ 64 → 0 < mask_l (map (is_outside p) (chunk i n bs)) → prefix_len p (drop i bs) ≡ count_trailing_zeros 64 (mask_l (map (is_outside p) (chunk i n bs)))
    run_ends few some =
        let c = chunk i n bs in
        split ∙ ap (λ b. cond b (length c + prefix_len p (drop (i + n) bs)) (prefix_len p c)) (ne_eqb _ _ (λ (e : prefix_len p c ≡ length c). omega (arith, no_bit c e)))
        ∙ sym (twice c) ∙ sym (trailing_mask_l (is_outside p) 64 c (omega (arith, length-chunk i n bs room)) some)

  -- ---- runs that are looked at from a later byte on

  -- from a byte within the run, it ends where it ended
  pub run_within : (bs : List ℕ) (n start at : ℕ) → start + n ≤ at → at ≤ length bs → start + prefix_len p (drop start bs) ≡ at + prefix_len p (drop at bs)
      → start + n + prefix_len p (drop (start + n) bs) ≡ start + prefix_len p (drop start bs)
  run_within bs zero start at le w e = rw (add-zero start) refl
  run_within bs (suc n) start at le w e =
      let passes : p (get_or bs start 0) ≡ true = ap p (sym (get_or-drop_0 bs start)) ∙ prefix_len_passes p (drop start bs) 0 0 (omega arith) in
      let one : prefix_len p (drop start bs) ≡ 1 + prefix_len p (drop (start + 1) bs) = prefix_len-drop_yes p bs start 0 (omega arith) passes in
      let rest = run_within bs n (start + 1) at (omega arith) w (omega (arith, one, e)) in
      let same : start + suc n ≡ start + 1 + n = omega arith in
      rw same (omega (arith, rest, one))
