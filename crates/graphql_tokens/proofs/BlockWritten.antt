-- Lines that are written one by one.
use Rattle.std.proofs.Common.{◌≡◌, ℕ, ◌+◌, ◌-◌, ◌≤◌, ◌<◌, List, [], ◌∷◌, ◌++◌, length, take, drop, sym, ap, ◌∙◌, append_assoc}
use Rattle.std.specs.List.{prefix_len}
use Rattle.graphql_tokens.specs.tokens.Place.{is_in_line}
use Rattle.graphql_tokens.specs.tokens.BlockText.{lines_of}
use Rattle.graphql_tokens.specs.inner.Blocks.{cleaned, written, end_len}
use Rattle.graphql_tokens.proofs.BlockLines.{lines_some, line_at_end, line_before}

written_more : (cut n : ℕ) (line t : List ℕ) → written cut n (line ∷ lines_of t) ≡ cleaned cut line ++ (10 ∷ written n n (lines_of t))
written_more cut n line t =
    let s = lines_some t in
    ap (λ ls. written cut n (line ∷ ls)) s.2 ∙ ap (λ ls. cleaned cut line ++ (10 ∷ written n n ls)) (sym s.2)

-- the last line
pub written_end : (bs old value new : List ℕ) (cut n at end : ℕ) → end ≡ at + prefix_len is_in_line (drop at bs) → end ≡ length bs → at ≤ length bs
    → value ++ written cut n (lines_of (drop at bs)) ≡ old → new ≡ value ++ cleaned cut (take (end - at) (drop at bs)) → new ≡ old
written_end bs old value new cut n at end e l w h k =
    k ∙ ap (λ ls. value ++ written cut n ls) (sym (line_at_end bs at end e l w)) ∙ h

-- a line with lines after it
pub written_step : (bs old value mid new : List ℕ) (cut n at end next : ℕ) → end ≡ at + prefix_len is_in_line (drop at bs) → end < length bs → next ≡ end + end_len (drop end bs)
    → value ++ written cut n (lines_of (drop at bs)) ≡ old → mid ≡ value ++ cleaned cut (take (end - at) (drop at bs)) → new ≡ mid ++ 10 ∷ []
    → new ++ written n n (lines_of (drop next bs)) ≡ old
written_step bs old value mid new cut n at end next e l x h k p =
    let line = take (end - at) (drop at bs) in
    let rest = written n n (lines_of (drop next bs)) in
    ap (λ y. y ++ rest) (p ∙ ap (λ y. y ++ 10 ∷ []) k)
    ∙ append_assoc (value ++ cleaned cut line) (10 ∷ []) rest
    ∙ append_assoc value (cleaned cut line) (10 ∷ rest)
    ∙ ap (λ y. value ++ y) (sym (written_more cut n line (drop next bs)))
    ∙ ap (λ i. value ++ written cut n (line ∷ lines_of (drop i bs))) x
    ∙ ap (λ ls. value ++ written cut n ls) (sym (line_before bs at end e l))
    ∙ h
