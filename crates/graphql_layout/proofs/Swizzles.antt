-- What a table of sixteen bytes holds at the lowest four bits of each of many bytes.
use Rattle.std.proofs.Common.{◌≡◌, ℕ, zero, suc, ◌+◌, ◌*◌, ◌/◌, ◌<◌, List, [], ◌++◌, map, length, get_or, replicate, bit_and, sym, ap, ◌∙◌, arith, w8}
use Rattle.std.proofs.lemmas.List.{ext_get_or, get_or-append-add, get_or_append_left, get_or-map, length-map}
use Rattle.std.proofs.lemmas.Nat.{and_le_r}
use Rattle.std.proofs.lemmas.Simd.{Each1-all, Each1-zip2, Each2-splat, length-zip2, zip2_splat, swz_l, SwzOk, SwzOk-from_below, length-swz_l, get_or-swz_l_below}
use lib.Lanes.{zip2}

-- the table, so many times
abbrev pub copies : ℕ → List ℕ → List ℕ
copies zero table = []
copies (suc n) table = table ++ copies n table

add_zero : (i : ℕ) → 0 + i ≡ i
add_zero i = omega arith

same_copy : (table : List ℕ) (n k j : ℕ) → length table ≡ 16 → k < n → j < 16 → get_or (copies n table) (16 * k + j) 0 ≡ get_or table j 0
same_copy table zero k j long inside low = absurd (omega (arith, inside))
same_copy table (suc n) zero j long inside low =
    ap (λ (i : ℕ). get_or (table ++ copies n table) i 0) (add_zero j) ∙ get_or_append_left table (copies n table) 0 j (omega (arith, long, low))
same_copy table (suc n) (suc k) j long inside low =
    let at : 16 * suc k + j ≡ length table + (16 * k + j) = omega (arith, long) in
    ap (λ (i : ℕ). get_or (table ++ copies n table) i 0) at ∙ get_or-append-add table (copies n table) (16 * k + j) 0 ∙ same_copy table n k j long (omega (arith, inside)) low

abbrev pub positions : List ℕ → List ℕ
positions v = zip2 bit_and v (replicate 64 15)

pub are_positions : (v : List ℕ) → length v ≡ 64 → SwzOk w8 16 64 0 (positions v)
are_positions v long =
    let low = Each1-all (λ a. bit_and a 15 < 16) (λ a. omega (arith, and_le_r a 15)) v in
    SwzOk-from_below w8 16 4 64 0 (positions v) (omega arith) (omega (arith, length-zip2 bit_and v (replicate 64 15) long)) (Each1-zip2 bit_and (λ j. j < 16) v (replicate 64 15) (Each2-splat (λ a b. bit_and a b < 16) v 64 15 low))

pub looked_up : (table v : List ℕ) → length table ≡ 16 → length v ≡ 64 → swz_l w8 16 (copies 4 table) 0 (positions v) ≡ map (λ c. get_or table (bit_and c 15) 0) v
looked_up table v wide long =
    let is : positions v ≡ map (λ c. bit_and c 15) v = zip2_splat bit_and v 64 15 long in
    let many : length (positions v) ≡ 64 = ap length is ∙ length-map v (λ c. bit_and c 15) ∙ long in
    let found = length-swz_l w8 16 (copies 4 table) 0 (positions v) in
    ext_get_or 0 _ _ (found ∙ many ∙ sym (length-map v (λ c. get_or table (bit_and c 15) 0) ∙ long)) (λ i h.
    let inside : i < 64 = omega (arith, h, found, many) in
    let byte = get_or v i 0 in
    let place : get_or (positions v) i 0 ≡ bit_and byte 15 = ap (λ (l : List ℕ). get_or l i 0) is ∙ get_or-map (λ c. bit_and c 15) v i 0 0 (omega (arith, inside, long)) in
    let low : get_or (positions v) i 0 < 16 = omega (arith, place, and_le_r byte 15) in
    get_or-swz_l_below w8 16 (copies 4 table) 0 (positions v) i (omega (arith, inside, many)) low
    ∙ ap (λ (k : ℕ). get_or (copies 4 table) (16 * (k / 16) + get_or (positions v) i 0) 0) (add_zero i) ∙ same_copy table 4 (i / 16) (get_or (positions v) i 0) wide (omega (arith, inside)) low
    ∙ ap (λ (j : ℕ). get_or table j 0) place ∙ sym (get_or-map (λ c. get_or table (bit_and c 15) 0) v i 0 0 (omega (arith, inside, long))))
