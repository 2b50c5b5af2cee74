-- Lines of a text with neither a carriage return nor `\"""`, which are written as they stand but for their indent.
use Rattle.std.proofs.Common.{◌≡◌, ◌≢◌, ℕ, zero, suc, ◌+◌, ◌-◌, ◌≤◌, ◌<◌, Bool, true, false, cond, eqb, ltb, ◌&&◌, min, ◌⊎◌, inl, inr, List, [], ◌∷◌, ◌++◌, length, take, drop, get_or, refl, sym, ap, ◌∙◌, arith, length-take, length-drop}
use Rattle.std.proofs.lemmas.Bool.{cases_lt}
use Rattle.std.proofs.lemmas.Bool.Decides.{nat_tests}
use Rattle.std.proofs.lemmas.List.{append-nil, take_all, drop_all, take_more, drop-take, drop-drop, get_or-take, get_or-drop}
use Rattle.std.specs.List.{prefix_len}
use Rattle.graphql_tokens.specs.tokens.Place.{is_in_line}
use Rattle.graphql_tokens.specs.tokens.BlockText.{begins_quotes, unquoted, is_blank_char, indent}
use Rattle.graphql_tokens.specs.inner.Blocks.{trimmed, IsPlainBetween}
use Rattle.graphql_tokens.proofs.BlockLines.{line_between}
use Rattle.graphql_tokens.proofs.BlockQuotes.{unquoted_front}
use Rattle.graphql_tokens.proofs.EscapeUnits.{both}

taken : (m n : ℕ) (xs : List ℕ) → eqb (get_or (take m xs) n 0) 34 ≡ true → eqb (get_or xs n 0) 34 ≡ true
taken m n xs h = by (cases_lt n m)
  where
    by : (n < m) ⊎ (m ≤ n) → eqb (get_or xs n 0) 34 ≡ true
    by (inl l) = ap (λ x. eqb x 34) (sym (get_or-take m xs n 0 l)) ∙ h
    by (inr g) = let past : get_or (take m xs) n 0 ≡ 0 = get_or_past (take m xs) n (omega (arith, length-take m xs)) in absurd (grind (arith, nat_tests))
      where
        get_or_past : (ys : List ℕ) (k : ℕ) → length ys ≤ k → get_or ys k 0 ≡ 0
        get_or_past [] k w = refl
        get_or_past (y ∷ ys) zero w = absurd (omega arith)
        get_or_past (y ∷ ys) (suc k) w = get_or_past ys k (omega arith)

begins_taken : (m : ℕ) (xs : List ℕ) → begins_quotes (take m xs) ≡ true → begins_quotes xs ≡ true
begins_taken zero xs h = absurd cc
begins_taken (suc m) [] h = absurd cc
begins_taken (suc m) (c ∷ cs) h =
    let slash = eqb c 92 in
    let first = eqb (get_or (take m cs) 0 0) 34 in
    let second = eqb (get_or (take m cs) 1 0) 34 in
    let p = both (slash && first && second) (eqb (get_or (take m cs) 2 0) 34) h in
    let q = both (slash && first) second p.0 in
    let r = both slash first q.0 in
    rw (r.0, taken m 0 cs r.1, taken m 1 cs q.1, taken m 2 cs p.1) refl

-- a part of the text has no escaped quotes
pub part_unquoted : (bs : List ℕ) (from n : ℕ) → IsPlainBetween bs 0 (length bs) → unquoted (take n (drop from bs)) ≡ take n (drop from bs)
part_unquoted bs from n p =
    unquoted_front (length part) part (λ k l. none k l (begins_quotes (drop k part)) refl)
    ∙ ap (λ x. take (length part) part ++ unquoted x) (drop_all (length part) part (omega arith))
    ∙ append-nil (take (length part) part) ∙ take_all (length part) part (omega arith)
  where
    part : List ℕ
    part = take n (drop from bs)

    none : (k : ℕ) → k < length part → (b : Bool) → begins_quotes (drop k part) ≡ b → b ≡ false
    none k l false e = refl
    none k l true e =
        let w : k + (n - k) ≡ n = omega (arith, length-take n (drop from bs)) in
        let same : drop k part ≡ take (n - k) (drop (from + k) bs) =
        ap (λ m. drop k (take m (drop from bs))) (sym w) ∙ drop-take k (n - k) (drop from bs) ∙ ap (take (n - k)) (drop-drop k from bs) in
        let here : begins_quotes (drop (from + k) bs) ≡ true = begins_taken (n - k) (drop (from + k) bs) (ap begins_quotes (sym same) ∙ e) in
        sym here ∙ (p (from + k) (omega arith) (omega (arith, length-take n (drop from bs), length-drop from bs))).1

-- Where a line begins without its indent, and what is left of it from there.
pub record Cut (bs : List ℕ) (at blanks end from here : ℕ) : Type 0 where
  pub forward : at ≤ from
  pub among : from ≤ blanks
  pub within : from ≤ end
  pub line : take (end - from) (drop from bs) ≡ trimmed here (take (end - at) (drop at bs))

pub cut : (bs : List ℕ) (at blanks end from here : ℕ) → blanks ≡ at + prefix_len is_blank_char (drop at bs) → end ≡ at + prefix_len is_in_line (drop at bs) → at ≤ length bs
    → from ≡ cond (ltb (end - at) here) at (min blanks (at + here)) → Cut bs at blanks end from here
cut bs at blanks end from here b e w f = by (ltb (end - at) here) refl f
  where
    line : List ℕ
    line = take (end - at) (drop at bs)

    by : (t : Bool) → ltb (end - at) here ≡ t → from ≡ cond t at (min blanks (at + here)) → Cut bs at blanks end from here
    by true t g =
        let l = line_between bs at end e w in
        let short : ltb (length line) here ≡ true = ap (λ n. ltb n here) l.long ∙ t in
        record {
          forward = omega arith;
          among = omega (arith, b);
          within = omega (arith, l.forward);
          line = ap (λ k. take (end - k) (drop k bs)) g ∙ sym (ap (λ x. cond x line (drop (min here (indent line)) line)) short);
        }
    by false t g =
        let l = line_between bs at end e w in
        let long : ltb (length line) here ≡ false = ap (λ n. ltb n here) l.long ∙ t in
        let forward : at ≤ from = omega (arith, b) in
        let within : from ≤ end = omega (arith, l.blanks, b) in
        let n : min here (indent line) ≡ from - at = omega (arith, l.indented, b, g) in
        let whole : end - at ≡ from - at + (end - from) = omega arith in
        let there : at + (from - at) ≡ from = omega arith in
        record {
          forward = forward;
          among = omega arith;
          within = within;
          line = sym (ap (λ x. cond x line (drop (min here (indent line)) line)) long ∙ ap (λ k. drop k line) n
              ∙ ap (λ k. drop (from - at) (take k (drop at bs))) whole ∙ drop-take (from - at) (end - from) (drop at bs)
              ∙ ap (take (end - from)) (drop-drop (from - at) at bs ∙ ap (λ k. drop k bs) there));
        }

-- it ends in a line feed
pub plain_feed : (bs : List ℕ) (end : ℕ) → IsPlainBetween bs 0 (length bs) → end < length bs → is_in_line (get_or bs end 0) ≡ false → get_or bs end 0 ≡ 10
plain_feed bs end p l stops =
    let other : get_or bs end 0 ≢ 13 = (p end (omega arith) l).0 in
    grind (arith, nat_tests)

-- and its line feed goes with it
pub with_feed : (bs : List ℕ) (from end : ℕ) → from ≤ end → end < length bs → get_or bs end 0 ≡ 10 → take (end + 1 - from) (drop from bs) ≡ take (end - from) (drop from bs) ++ 10 ∷ []
with_feed bs from end w l f =
    let n : end + 1 - from ≡ end - from + 1 = omega arith in
    let at : get_or (drop from bs) (end - from) 0 ≡ 10 = get_or-drop from bs (end - from) 0 ∙ ap (λ k. get_or bs k 0) (let z : from + (end - from) ≡ end = omega arith in z) ∙ f in
    ap (λ k. take k (drop from bs)) n ∙ take_more (drop from bs) (end - from) 0 (omega (arith, length-drop from bs)) ∙ ap (λ c. take (end - from) (drop from bs) ++ c ∷ []) at
