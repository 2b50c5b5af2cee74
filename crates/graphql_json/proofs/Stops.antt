-- A look at bytes leaves a mask, and the mask tells which of them need no escape.
use Rattle.std.proofs.Common.{◌≡◌, ◌≢◌, ℕ, ◌+◌, ◌≤◌, ◌<◌, not, ◌==◌, List, length, map, inl, inr, sym, ap, ◌∙◌, arith}
use Rattle.std.proofs.lemmas.Bool.{OnTrue_from, cases_lt, eqb-true}
use Rattle.std.proofs.lemmas.Simd.{length-chunk, none_from_empty_mask, run_in_chunk_fails, run_in_chunk_le, trailing_mask_l}
use Rattle.std.specs.Bool.{OnTrue}
use lib.Count.{count_trailing_zeros}
use lib.Lanes.{chunk, mask_l}
use Rattle.json.specs.Run.{is_stop}
use Rattle.json.specs.Written.{PlainBetween}

module _ (text : List ℕ) (at n : ℕ) (fits : at + n ≤ length text) where
  -- no bit is set
  pub plain_through : mask_l (map is_stop (chunk at n text)) ≡ 0 → PlainBetween text at (at + n)
  plain_through none k from to = ap not (none_from_empty_mask is_stop text at n 0 fits none k from to)

  -- the lowest bit is that of the first byte that needs one
  pub plain_to_stop : n ≤ 64 → (stops : ℕ) → stops ≡ mask_l (map is_stop (chunk at n text)) → stops ≢ 0 → (count_trailing_zeros 64 stops ≤ n) × PlainBetween text at (at + count_trailing_zeros 64 stops)
  plain_to_stop few stops is some =
      let bytes = chunk at n text in
      let long : length bytes ≡ n = length-chunk at n text fits in
      let short : length bytes ≤ 64 = omega arith in
      let set : 0 < mask_l (map is_stop bytes) = omega arith in
      let counted = ap (count_trailing_zeros 64) is ∙ trailing_mask_l is_stop 64 bytes short set in
      (run_in_chunk_le is_stop text at n _ 0 fits counted, λ k from to. ap not (run_in_chunk_fails is_stop text at n _ 0 fits counted k from to))

  pub plain_on_no_stop : (stops : ℕ) → stops ≡ mask_l (map is_stop (chunk at n text)) → OnTrue (stops == 0) (PlainBetween text at (at + n))
  plain_on_no_stop stops is = OnTrue_from (stops == 0) _ (λ e. plain_through (sym is ∙ eqb-true stops 0 e))

-- two runs of which the second begins at or before the end of the first are one
pub joined : (text : List ℕ) (start from to end : ℕ) → from ≤ to → PlainBetween text start to → PlainBetween text from end → PlainBetween text start end
joined text start from to end meet first last k after before =
    elim (cases_lt k to) [
      | inl below ↦ first k after below
      | inr above ↦ last k (omega arith) before
    ]
