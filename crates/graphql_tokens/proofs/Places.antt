-- The place after one character more.
use Rattle.std.proofs.Common.{◌≡◌, ℕ, ◌+◌, ◌≤◌, Bool, true, false, cond, List, [], ◌∷◌, ◌++◌, length, refl, arith}
use Rattle.std.proofs.lemmas.List.{reverse-append}
use Rattle.std.proofs.lemmas.List.Sums.{sum_by_push, count_by-le-length}
use Rattle.std.specs.List.{count_by, suffix_len}
use Rattle.graphql_tokens.specs.tokens.Place.{place_after, is_line_feed, is_in_line}

count_by_push : (p : ℕ → Bool) (xs : List ℕ) (c : ℕ) → count_by p (xs ++ c ∷ []) ≡ count_by p xs + cond (p c) 1 0
count_by_push p xs c = sum_by_push (λ x. cond (p x) 1 0) xs c

suffix_len_push : (p : ℕ → Bool) (xs : List ℕ) (c : ℕ) → suffix_len p (xs ++ c ∷ []) ≡ cond (p c) (1 + suffix_len p xs) 0
suffix_len_push p xs c = rw (reverse-append xs (c ∷ [])) refl

one_more : (b : Bool) (n : ℕ) → 1 + cond b (1 + n) 0 ≡ cond b ((1 + n) + 1) 1
one_more true n = omega arith
one_more false n = omega arith

pub line_push : (front : List ℕ) (c : ℕ) → (place_after (front ++ c ∷ [])).line ≡ (place_after front).line + cond (is_line_feed c) 1 0
line_push front c = omega (arith, count_by_push is_line_feed front c)

pub column_push : (front : List ℕ) (c : ℕ) → (place_after (front ++ c ∷ [])).column ≡ cond (is_in_line c) ((place_after front).column + 1) 1
column_push front c = rw (suffix_len_push is_in_line front c) (one_more (is_in_line c) (suffix_len is_in_line front))

pub line_bound : (front : List ℕ) → (place_after front).line ≤ 1 + length front
line_bound front = omega (arith, count_by-le-length is_line_feed front)
