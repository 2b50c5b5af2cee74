-- The value of a block string has the characters of its raw text and line feeds, so a property that all of these have, its
-- characters have.
use Rattle.std.proofs.Common.{ℕ, zero, suc, Bool, true, false, cond, eqb, nat_lt, get_or, List, [], ◌∷◌, ◌++◌, map, length, drop}
use Rattle.std.specs.List.{AllByRecursion}
use Rattle.graphql_tokens.specs.tokens.BlockText.{begins_quotes, unquoted, lines_of, onto_line, common_indent, dedented, dedent, from_text, to_text, joined, block_value}
use Rattle.graphql_tokens.proofs.BlockValue.{from_text-all, to_text-all}

abbrev Lines : (ℕ → Type 0) → List (List ℕ) → Type 0
Lines P lines = AllByRecursion (AllByRecursion P) lines

all_unquoted : (P : ℕ → Type 0) (cs : List ℕ) → AllByRecursion P cs → AllByRecursion P (unquoted cs)
all_unquoted P [] h = h
all_unquoted P (c ∷ cs) h = by (begins_quotes (c ∷ cs)) (all_unquoted P cs h.1)
  where
    by : (b : Bool) → AllByRecursion P (unquoted cs) → AllByRecursion P (cond b (unquoted cs) (c ∷ unquoted cs))
    by true r = r
    by false r = (h.0, r)

all_onto : (P : ℕ → Type 0) (c : ℕ) (lines : List (List ℕ)) → P c → Lines P lines → Lines P (onto_line c lines)
all_onto P c [] h k = ((h, tt), tt)
all_onto P c (line ∷ lines) h k = ((h, k.0), k.1)

all_lines : (P : ℕ → Type 0) (cs : List ℕ) → AllByRecursion P cs → Lines P (lines_of cs)
all_lines P [] h = (tt, tt)
all_lines P (c ∷ cs) h = by (eqb c 10) (eqb c 13) (eqb (get_or cs 0 0) 10) (all_lines P cs h.1)
  where
    by : (a b d : Bool) → Lines P (lines_of cs) → Lines P (cond a ([] ∷ lines_of cs) (cond b (cond d (lines_of cs) ([] ∷ lines_of cs)) (onto_line c (lines_of cs))))
    by true b d r = (tt, r)
    by false true true r = r
    by false true false r = (tt, r)
    by false false d r = all_onto P c (lines_of cs) h.0 r

all_drop : (P : ℕ → Type 0) (n : ℕ) (line : List ℕ) → AllByRecursion P line → AllByRecursion P (drop n line)
all_drop P zero line h = h
all_drop P (suc n) [] h = h
all_drop P (suc n) (c ∷ cs) h = all_drop P n cs h.1

all_cut : (P : ℕ → Type 0) (n : ℕ) (line : List ℕ) → AllByRecursion P line → AllByRecursion P (dedented n line)
all_cut P n line h = by (nat_lt (length line) n)
  where
    by : (b : Bool) → AllByRecursion P (cond b line (drop n line))
    by true = h
    by false = all_drop P n line h

all_cuts : (P : ℕ → Type 0) (n : ℕ) (lines : List (List ℕ)) → Lines P lines → Lines P (map (dedented n) lines)
all_cuts P n [] h = h
all_cuts P n (line ∷ lines) h = (all_cut P n line h.0, all_cuts P n lines h.1)

all_dedent : (P : ℕ → Type 0) (lines : List (List ℕ)) → Lines P lines → Lines P (dedent lines)
all_dedent P [] h = h
all_dedent P (line ∷ lines) h = (h.0, all_cuts P (common_indent lines) lines h.1)

all_append : (P : ℕ → Type 0) (v w : List ℕ) → AllByRecursion P v → AllByRecursion P w → AllByRecursion P (v ++ w)
all_append P [] w h k = k
all_append P (c ∷ v) w h k = (h.0, all_append P v w h.1 k)

all_joined : (P : ℕ → Type 0) → P 10 → (lines : List (List ℕ)) → Lines P lines → AllByRecursion P (joined lines)
all_joined P f [] h = tt
all_joined P f (line ∷ []) h = h.0
all_joined P f (line ∷ next ∷ lines) h = all_append P line (10 ∷ joined (next ∷ lines)) h.0 (f, all_joined P f (next ∷ lines) h.1)

pub value_all : (P : ℕ → Type 0) → P 10 → (raw : List ℕ) → AllByRecursion P raw → AllByRecursion P (block_value raw)
unfolding block_value
value_all P f raw h =
    let lines = dedent (lines_of (unquoted raw)) in
    all_joined P f (to_text (from_text lines)) (to_text-all (AllByRecursion P) (from_text lines) (from_text-all (AllByRecursion P) lines (all_dedent P (lines_of (unquoted raw)) (all_lines P (unquoted raw) (all_unquoted P raw h)))))
