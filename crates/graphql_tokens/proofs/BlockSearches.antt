-- What searches for bytes find in the raw text of a block string.
use Rattle.std.proofs.Common.{◌≡◌, ℕ, ◌+◌, ◌-◌, ◌≤◌, ◌<◌, Bool, true, false, eqb, ◌&&◌, ◌⊎◌, List, length, take, drop, get_or, refl, sym, ap, ◌∙◌, inl, inr, arith, length-drop}
use Rattle.std.proofs.lemmas.Bool.{cases_lt}
use Rattle.std.proofs.lemmas.List.{get_or-drop, take_rest}
use Rattle.memchr.specs.Find.{Passes, Nowhere, is_byte}
use Rattle.graphql_tokens.specs.tokens.BlockText.{begins_quotes}
use Rattle.graphql_tokens.specs.inner.Blocks.{IsUnquotedBetween}
use Rattle.graphql_tokens.proofs.Scan.{get_or-drop_0}

no_slash : (bs : List ℕ) (k : ℕ) → (eqb (get_or bs k 0) 92 ≡ true → ⊥) → begins_quotes (drop k bs) ≡ false
no_slash bs k n =
    ap (λ c. eqb c 92 && eqb (get_or (drop k bs) 1 0) 34 && eqb (get_or (drop k bs) 2 0) 34 && eqb (get_or (drop k bs) 3 0) 34) (get_or-drop_0 bs k)
    ∙ by (eqb (get_or bs k 0) 92) refl
  where
    by : (b : Bool) → eqb (get_or bs k 0) 92 ≡ b → (b && eqb (get_or (drop k bs) 1 0) 34 && eqb (get_or (drop k bs) 2 0) 34 && eqb (get_or (drop k bs) 3 0) 34) ≡ false
    by true e = absurd (n e)
    by false e = refl

-- the text from a place on, as the code cuts it
abbrev from : List ℕ → ℕ → List ℕ
from bs at = take (length bs - at) (drop at bs)

-- a search from a place on, which finds no backslash in so many bytes
pub unquoted_on : (bs : List ℕ) (start at n : ℕ) → IsUnquotedBetween bs start at → Nowhere (Passes (is_byte 92) (from bs at)) 0 n → IsUnquotedBetween bs start (at + n)
unquoted_on bs start at n h more k l m = by (cases_lt k at)
  where
    by : (k < at) ⊎ (at ≤ k) → begins_quotes (drop k bs) ≡ false
    by (inl a) = h k l a
    by (inr a) =
        let i : at + (k - at) ≡ k = omega arith in
        let here : get_or (from bs at) (k - at) 0 ≡ get_or bs k 0 = ap (λ t. get_or t (k - at) 0) (take_rest bs at) ∙ get_or-drop at bs (k - at) 0 ∙ ap (λ j. get_or bs j 0) i in
        no_slash bs k (λ e. more (k - at) (omega arith) (omega arith) (ap (λ c. eqb c 92) here ∙ e))

-- the same up to the end
pub unquoted_end : (bs : List ℕ) (start at : ℕ) → at ≤ length bs → IsUnquotedBetween bs start at → Nowhere (Passes (is_byte 92) (from bs at)) 0 (length (from bs at)) → IsUnquotedBetween bs start (length bs)
unquoted_end bs start at w h more k l m =
    unquoted_on bs start at (length (from bs at)) h more k l (omega (arith, ap length (take_rest bs at), length-drop at bs))

-- one backslash more, with which no quotes begin
pub unquoted_past : (bs : List ℕ) (start at : ℕ) → IsUnquotedBetween bs start at → begins_quotes (drop at bs) ≡ false → IsUnquotedBetween bs start (at + 1)
unquoted_past bs start at h e k l m = by (cases_lt k at)
  where
    by : (k < at) ⊎ (at ≤ k) → begins_quotes (drop k bs) ≡ false
    by (inl a) = h k l a
    by (inr a) = let i : at ≡ k = omega arith in ap (λ j. begins_quotes (drop j bs)) (sym i) ∙ e
