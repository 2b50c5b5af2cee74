-- The value of a block string, from the lines that the code finds.
use Rattle.std.proofs.Common.{◌≡◌, ℕ, zero, suc, ◌+◌, ◌-◌, ◌≤◌, Bool, true, false, cond, eqb, ltb, ◌&&◌, ◌⊎◌, min, List, [], ◌∷◌, map, length, take, drop, get_or, refl, sym, ap, ◌∙◌, inl, inr, arith, one-add}
use Rattle.std.proofs.lemmas.Bool.Decides.{nat_tests}
use Rattle.std.proofs.lemmas.List.Sums.{prefix_len-le-length}
use Rattle.std.specs.List.{AllByRecursion, list_all, prefix_len}
use Rattle.graphql_tokens.specs.tokens.Place.{is_in_line}
use Rattle.graphql_tokens.specs.tokens.BlockText.{begins_quotes, unquoted, lines_of, onto_line, is_blank_char, is_blank, indent, least, common_indent, dedented, dedent, from_text, to_text, joined, block_value}
use Rattle.graphql_tokens.specs.inner.Blocks.{first_line, trimmed, cleaned}
use Rattle.graphql_tokens.proofs.BlockIndents.{indents, indents_blank, indents_text}
use Rattle.graphql_tokens.proofs.EscapeUnits.{both}
use Rattle.graphql_tokens.proofs.BlockLines.{blank_len, line_onto, lines_some, first_is}

-- ---- lines that the indent doesn't cut into

-- the line is blank, or has so many blanks at its front
abbrev pub IsDeep : ℕ → List ℕ → Type 0
IsDeep n line = (is_blank line ≡ true) ⊎ (n ≤ indent line)

abbrev pub AreDeep : ℕ → List (List ℕ) → Type 0
AreDeep n lines = AllByRecursion (IsDeep n) lines

abbrev AllAbove : ℕ → List ℕ → Type 0
AllAbove n ns = AllByRecursion (λ m. n ≤ m) ns

weaker : (k n : ℕ) (ns : List ℕ) → k ≤ n → AllAbove n ns → AllAbove k ns
weaker k n [] l h = tt
weaker k n (m ∷ ns) l h = ((let x : n ≤ m = h.0 in omega arith), weaker k n ns l h.1)

least_below : (ns : List ℕ) → AllAbove (least ns) ns
least_below [] = tt
least_below (n ∷ []) = (omega arith, tt)
least_below (n ∷ m ∷ ns) = (omega arith, weaker (least (n ∷ m ∷ ns)) (least (m ∷ ns)) (m ∷ ns) (omega arith) (least_below (m ∷ ns)))

deep_above : (n : ℕ) (lines : List (List ℕ)) → AllAbove n (indents lines) → AreDeep n lines
deep_above n [] h = tt
deep_above n (line ∷ lines) h = by (is_blank line) refl (deep_above n lines)
  where
    by : (b : Bool) → is_blank line ≡ b → (AllAbove n (indents lines) → AreDeep n lines) → AreDeep n (line ∷ lines)
    by true e r = (inl e, r (rw (indents_blank line lines e) at h))
    by false e r = let f = rw (indents_text line lines e) at h in (inr f.0, r f.1)

pub deep : (lines : List (List ℕ)) → AreDeep (common_indent lines) lines
deep lines = deep_above (common_indent lines) lines (least_below (indents lines))

-- ---- a map of lines that keeps their blanks

pub record Keeps (f : List ℕ → List ℕ) : Type 0 where
  pub blank : (line : List ℕ) → is_blank (f line) ≡ is_blank line
  pub front : (line : List ℕ) → indent (f line) ≡ indent line
  pub cut : (n : ℕ) (line : List ℕ) → n ≤ indent line → f (drop n line) ≡ drop n (f line)
  pub same : (line : List ℕ) → is_blank line ≡ true → f line ≡ line

drop_blank : (n : ℕ) (line : List ℕ) → is_blank line ≡ true → is_blank (drop n line) ≡ true
drop_blank zero line h = h
drop_blank (suc n) [] h = h
drop_blank (suc n) (c ∷ cs) h = drop_blank n cs (both (is_blank_char c) (is_blank cs) h).1

dedented_blank : (n : ℕ) (line : List ℕ) → is_blank line ≡ true → is_blank (dedented n line) ≡ true
dedented_blank n line h = by (ltb (length line) n)
  where
    by : (b : Bool) → is_blank (cond b line (drop n line)) ≡ true
    by true = h
    by false = drop_blank n line h

not_short : (n : ℕ) (line : List ℕ) → n ≤ indent line → ltb (length line) n ≡ false
not_short n line h = let k : indent line ≤ length line = prefix_len-le-length is_blank_char line in grind (arith, nat_tests)

dedented_deep : (n : ℕ) (line : List ℕ) → n ≤ indent line → dedented n line ≡ drop n line
dedented_deep n line h = ap (λ b. cond b line (drop n line)) (not_short n line h)

keeps_dedented : (f : List ℕ → List ℕ) → Keeps f → (n : ℕ) (line : List ℕ) → IsDeep n line → dedented n (f line) ≡ f (dedented n line)
keeps_dedented f k n line (inl h) = ap (dedented n) (k.same line h) ∙ sym (k.same (dedented n line) (dedented_blank n line h))
keeps_dedented f k n line (inr h) =
    let front : n ≤ indent (f line) = rw (k.front line) h in
    dedented_deep n (f line) front ∙ sym (k.cut n line h) ∙ ap f (sym (dedented_deep n line h))

keeps_indents : (f : List ℕ → List ℕ) → Keeps f → (lines : List (List ℕ)) → indents (map f lines) ≡ indents lines
keeps_indents f k [] = refl
keeps_indents f k (line ∷ lines) = by (is_blank line) refl (keeps_indents f k lines)
  where
    by : (b : Bool) → is_blank line ≡ b → indents (map f lines) ≡ indents lines → indents (f line ∷ map f lines) ≡ indents (line ∷ lines)
    by true e r = indents_blank (f line) (map f lines) (k.blank line ∙ e) ∙ r ∙ sym (indents_blank line lines e)
    by false e r = indents_text (f line) (map f lines) (k.blank line ∙ e) ∙ ap (λ n. n ∷ indents (map f lines)) (k.front line) ∙ ap (λ ns. indent line ∷ ns) r ∙ sym (indents_text line lines e)

keeps_map : (f : List ℕ → List ℕ) → Keeps f → (n : ℕ) (lines : List (List ℕ)) → AreDeep n lines → map (dedented n) (map f lines) ≡ map f (map (dedented n) lines)
keeps_map f k n [] h = refl
keeps_map f k n (line ∷ lines) h = ap (λ x. x ∷ map (dedented n) (map f lines)) (keeps_dedented f k n line h.0) ∙ ap (λ xs. f (dedented n line) ∷ xs) (keeps_map f k n lines h.1)

keeps_dedent : (f : List ℕ → List ℕ) → Keeps f → (lines : List (List ℕ)) → dedent (map f lines) ≡ map f (dedent lines)
keeps_dedent f k [] = refl
keeps_dedent f k (line ∷ lines) =
    ap (λ ns. f line ∷ map (dedented (least ns)) (map f lines)) (keeps_indents f k lines)
    ∙ ap (λ xs. f line ∷ xs) (keeps_map f k (common_indent lines) lines (deep lines))

-- the map leaves blank lines blank, and no others
abbrev pub SameBlank : (List ℕ → List ℕ) → List (List ℕ) → Type 0
SameBlank g lines = AllByRecursion (λ line. is_blank (g line) ≡ is_blank line) lines

pub from_text-map : (g : List ℕ → List ℕ) (lines : List (List ℕ)) → SameBlank g lines → from_text (map g lines) ≡ map g (from_text lines)
from_text-map g [] h = refl
from_text-map g (line ∷ lines) h = by (is_blank line) refl (from_text-map g lines h.1)
  where
    by : (b : Bool) → is_blank line ≡ b → from_text (map g lines) ≡ map g (from_text lines)
        → cond (is_blank (g line)) (from_text (map g lines)) (g line ∷ map g lines) ≡ map g (cond (is_blank line) (from_text lines) (line ∷ lines))
    by true e r = ap (λ b. cond b (from_text (map g lines)) (g line ∷ map g lines)) (h.0 ∙ e) ∙ r ∙ ap (λ b. map g (cond b (from_text lines) (line ∷ lines))) (sym e)
    by false e r = ap (λ b. cond b (from_text (map g lines)) (g line ∷ map g lines)) (h.0 ∙ e) ∙ ap (λ b. map g (cond b (from_text lines) (line ∷ lines))) (sym e)

all_blank-map : (g : List ℕ → List ℕ) (lines : List (List ℕ)) → SameBlank g lines → list_all is_blank (map g lines) ≡ list_all is_blank lines
all_blank-map g [] h = refl
all_blank-map g (line ∷ lines) h = ap (λ b. b && list_all is_blank (map g lines)) h.0 ∙ ap (λ b. is_blank line && b) (all_blank-map g lines h.1)

pub to_text-map : (g : List ℕ → List ℕ) (lines : List (List ℕ)) → SameBlank g lines → to_text (map g lines) ≡ map g (to_text lines)
to_text-map g [] h = refl
to_text-map g (line ∷ lines) h =
    ap (λ b. cond b [] (g line ∷ to_text (map g lines))) (all_blank-map g (line ∷ lines) h)
    ∙ by (list_all is_blank (line ∷ lines)) (to_text-map g lines h.1)
  where
    by : (b : Bool) → to_text (map g lines) ≡ map g (to_text lines) → cond b [] (g line ∷ to_text (map g lines)) ≡ map g (cond b [] (line ∷ to_text lines))
    by true r = refl
    by false r = ap (λ xs. g line ∷ xs) r

pub from_text-all : (P : List ℕ → Type 0) (lines : List (List ℕ)) → AllByRecursion P lines → AllByRecursion P (from_text lines)
from_text-all P [] h = h
from_text-all P (line ∷ lines) h = by (is_blank line) (from_text-all P lines h.1)
  where
    by : (b : Bool) → AllByRecursion P (from_text lines) → AllByRecursion P (cond b (from_text lines) (line ∷ lines))
    by true r = r
    by false r = h

pub to_text-all : (P : List ℕ → Type 0) (lines : List (List ℕ)) → AllByRecursion P lines → AllByRecursion P (to_text lines)
to_text-all P [] h = h
to_text-all P (line ∷ lines) h = by (list_all is_blank (line ∷ lines)) (to_text-all P lines h.1)
  where
    by : (b : Bool) → AllByRecursion P (to_text lines) → AllByRecursion P (cond b [] (line ∷ to_text lines))
    by true r = tt
    by false r = (h.0, r)

all_of : (P : List ℕ → Type 0) → ((line : List ℕ) → P line) → (lines : List (List ℕ)) → AllByRecursion P lines
all_of P p [] = tt
all_of P p (line ∷ lines) = (p line, all_of P p lines)

-- both ends
ends-map : (g : List ℕ → List ℕ) (lines : List (List ℕ)) → SameBlank g lines → to_text (from_text (map g lines)) ≡ map g (to_text (from_text lines))
ends-map g lines h = ap to_text (from_text-map g lines h) ∙ to_text-map g (from_text lines) (from_text-all (λ line. is_blank (g line) ≡ is_blank line) lines h)

pub keeps_value : (f : List ℕ → List ℕ) → Keeps f → (lines : List (List ℕ)) → to_text (from_text (dedent (map f lines))) ≡ map f (to_text (from_text (dedent lines)))
keeps_value f k lines = ap (λ x. to_text (from_text x)) (keeps_dedent f k lines) ∙ ends-map f (dedent lines) (all_of (λ line. is_blank (f line) ≡ is_blank line) k.blank (dedent lines))

-- ---- lines without their indent

dedented_same : (n : ℕ) (line : List ℕ) → IsDeep n line → is_blank (dedented n line) ≡ is_blank line
dedented_same n line (inl h) = dedented_blank n line h ∙ sym h
dedented_same n line (inr h) = ap is_blank (dedented_deep n line h) ∙ front n line h
  where
    front : (n : ℕ) (line : List ℕ) → n ≤ indent line → is_blank (drop n line) ≡ is_blank line
    front zero line h = refl
    front (suc n) [] h = refl
    front (suc n) (c ∷ cs) h = by (is_blank_char c) h (front n cs)
      where
        by : (b : Bool) → suc n ≤ cond b (1 + indent cs) 0 → (n ≤ indent cs → is_blank (drop n cs) ≡ is_blank cs) → is_blank (drop n cs) ≡ (b && is_blank cs)
        by true l r = r (omega arith)
        by false l r = absurd (omega arith)

pub same_all : (n : ℕ) (lines : List (List ℕ)) → AreDeep n lines → SameBlank (dedented n) lines
same_all n [] h = tt
same_all n (line ∷ lines) h = (dedented_same n line h.0, same_all n lines h.1)

trimmed_deep : (n : ℕ) (line : List ℕ) → IsDeep n line → trimmed n line ≡ dedented n line
trimmed_deep n line (inr h) = let m : min n (indent line) ≡ n = omega arith in ap (λ k. cond (ltb (length line) n) line (drop k line)) m
trimmed_deep n line (inl h) = by (ltb (length line) n) refl
  where
    by : (b : Bool) → ltb (length line) n ≡ b → cond b line (drop (min n (indent line)) line) ≡ cond b line (drop n line)
    by true e = refl
    by false e =
        let l : n ≤ length line = grind (arith, nat_tests) in
        let m : min n (indent line) ≡ n = omega (arith, blank_len line h) in
        ap (λ k. drop k line) m

pub cleaned_map : (n : ℕ) (lines : List (List ℕ)) → AreDeep n lines → map (cleaned n) lines ≡ map unquoted (map (dedented n) lines)
cleaned_map n [] h = refl
cleaned_map n (line ∷ lines) h = ap (λ x. unquoted x ∷ map (cleaned n) lines) (trimmed_deep n line h.0) ∙ ap (λ xs. unquoted (dedented n line) ∷ xs) (cleaned_map n lines h.1)

pub cleaned_zero : (line : List ℕ) → cleaned 0 line ≡ unquoted line
cleaned_zero line = ap unquoted (by (ltb (length line) 0) refl)
  where
    by : (b : Bool) → ltb (length line) 0 ≡ b → cond b line (drop (min 0 (indent line)) line) ≡ line
    by true e = refl
    by false e = let m : min 0 (indent line) ≡ 0 = omega arith in ap (λ k. drop k line) m

-- ---- `\"""`, and lines

-- so many quotes
abbrev pub quotes_at : ℕ → List ℕ → Bool
quotes_at zero xs = true
quotes_at (suc k) [] = false
quotes_at (suc k) (x ∷ xs) = eqb x 34 && quotes_at k xs

quotes_all : (a b c d : Bool) → (((a && b) && c) && d) ≡ (a && (b && (c && (d && true))))
quotes_all false b c d = refl
quotes_all true false c d = refl
quotes_all true true false d = refl
quotes_all true true true false = refl
quotes_all true true true true = refl

pub begins_is : (c : ℕ) (xs : List ℕ) → begins_quotes (c ∷ xs) ≡ (eqb c 92 && quotes_at 3 xs)
begins_is c [] = quotes_all (eqb c 92) false false false
begins_is c (x ∷ []) = quotes_all (eqb c 92) (eqb x 34) false false
begins_is c (x ∷ y ∷ []) = quotes_all (eqb c 92) (eqb x 34) (eqb y 34) false
begins_is c (x ∷ y ∷ z ∷ xs) = quotes_all (eqb c 92) (eqb x 34) (eqb y 34) (eqb z 34)

-- the line at the front of the text has them where the text has
quotes_line : (k : ℕ) (xs : List ℕ) → quotes_at k (take (prefix_len is_in_line xs) xs) ≡ quotes_at k xs
quotes_line zero xs = refl
quotes_line (suc k) [] = refl
quotes_line (suc k) (x ∷ xs) = by (is_in_line x) refl (quotes_line k xs)
  where
    by : (b : Bool) → is_in_line x ≡ b → quotes_at k (take (prefix_len is_in_line xs) xs) ≡ quotes_at k xs
        → quotes_at (suc k) (take (cond b (1 + prefix_len is_in_line xs) 0) (x ∷ xs)) ≡ (eqb x 34 && quotes_at k xs)
    by true e r = rw (one-add (prefix_len is_in_line xs)) (ap (λ q. eqb x 34 && q) r)
    by false e r = let n : eqb x 34 ≡ false = grind (arith, nat_tests) in ap (λ b. b && quotes_at k xs) (sym n)

begins_line : (c : ℕ) (xs : List ℕ) → begins_quotes (c ∷ take (prefix_len is_in_line xs) xs) ≡ begins_quotes (c ∷ xs)
begins_line c xs = begins_is c (take (prefix_len is_in_line xs) xs) ∙ ap (λ q. eqb c 92 && q) (quotes_line 3 xs) ∙ sym (begins_is c xs)

pub unquoted_yes : (c : ℕ) (cs : List ℕ) → begins_quotes (c ∷ cs) ≡ true → unquoted (c ∷ cs) ≡ unquoted cs
unquoted_yes c cs h = ap (λ b. cond b (unquoted cs) (c ∷ unquoted cs)) h

pub unquoted_no : (c : ℕ) (cs : List ℕ) → begins_quotes (c ∷ cs) ≡ false → unquoted (c ∷ cs) ≡ c ∷ unquoted cs
unquoted_no c cs h = ap (λ b. cond b (unquoted cs) (c ∷ unquoted cs)) h

pub not_slash : (c : ℕ) (cs : List ℕ) → eqb c 92 ≡ false → begins_quotes (c ∷ cs) ≡ false
not_slash c cs h = begins_is c cs ∙ ap (λ b. b && quotes_at 3 cs) h

-- after the backslash stands a quote, which stays
after_quote : (c : ℕ) (cs : List ℕ) → begins_quotes (c ∷ cs) ≡ true → (c ≡ 92) × (rest : List ℕ) × (cs ≡ 34 ∷ rest) × (unquoted cs ≡ 34 ∷ unquoted rest)
after_quote c [] h = let e = (both (eqb c 92) (quotes_at 3 []) (sym (begins_is c []) ∙ h)).1 in absurd (cc)
after_quote c (x ∷ xs) h =
    let b = both (eqb c 92) (quotes_at 3 (x ∷ xs)) (sym (begins_is c (x ∷ xs)) ∙ h) in
    let q = (both (eqb x 34) (quotes_at 2 xs) b.1).0 in
    let slash : c ≡ 92 = grind (arith, nat_tests, b.0) in
    let quote : x ≡ 34 = grind (arith, nat_tests, q) in
    (slash, xs, ap (λ y. y ∷ xs) quote, ap (λ y. unquoted (y ∷ xs)) quote ∙ unquoted_no 34 xs (not_slash 34 xs refl))

first_ten : (cs : List ℕ) → eqb (get_or (unquoted cs) 0 0) 10 ≡ eqb (get_or cs 0 0) 10
first_ten [] = refl
first_ten (c ∷ cs) = by (begins_quotes (c ∷ cs)) refl
  where
    by : (b : Bool) → begins_quotes (c ∷ cs) ≡ b → eqb (get_or (unquoted (c ∷ cs)) 0 0) 10 ≡ eqb c 10
    by true e =
        let q = after_quote c cs e in
        ap (λ x. eqb (get_or x 0 0) 10) (unquoted_yes c cs e ∙ q.3) ∙ ap (λ x. eqb x 10) (sym q.0)
    by false e = ap (λ x. eqb (get_or x 0 0) 10) (unquoted_no c cs e)

pub whole : (n : ℕ) (xs : List ℕ) → take (n - 0) xs ≡ take n xs
whole n xs = let e : n - 0 ≡ n = omega arith in ap (λ k. take k xs) e

onto_unquoted : (c : ℕ) (cs : List ℕ) → begins_quotes (c ∷ cs) ≡ false → onto_line c (map unquoted (lines_of cs)) ≡ map unquoted (onto_line c (lines_of cs))
onto_unquoted c cs h =
    let s = lines_some cs in
    let first : s.0 ≡ take (prefix_len is_in_line cs) cs = sym (ap first_line s.2) ∙ first_is cs 0 (prefix_len is_in_line cs) (omega arith) (omega arith) ∙ whole (prefix_len is_in_line cs) cs in
    let no_quotes : begins_quotes (c ∷ s.0) ≡ false = ap (λ x. begins_quotes (c ∷ x)) first ∙ begins_line c cs ∙ h in
    ap (λ x. onto_line c (map unquoted x)) s.2 ∙ ap (λ x. x ∷ map unquoted s.1) (sym (unquoted_no c s.0 no_quotes)) ∙ ap (λ x. map unquoted (onto_line c x)) (sym s.2)

slash_unquoted : (c : ℕ) (cs : List ℕ) → begins_quotes (c ∷ cs) ≡ true → map unquoted (lines_of (c ∷ cs)) ≡ map unquoted (lines_of cs)
slash_unquoted c cs h =
    let s = lines_some cs in
    let slash : c ≡ 92 = (after_quote c cs h).0 in
    let line : is_in_line c ≡ true = ap is_in_line slash in
    let first : s.0 ≡ take (prefix_len is_in_line cs) cs = sym (ap first_line s.2) ∙ first_is cs 0 (prefix_len is_in_line cs) (omega arith) (omega arith) ∙ whole (prefix_len is_in_line cs) cs in
    let quotes : begins_quotes (c ∷ s.0) ≡ true = ap (λ x. begins_quotes (c ∷ x)) first ∙ begins_line c cs ∙ h in
    ap (map unquoted) (line_onto c cs line ∙ ap (onto_line c) s.2) ∙ ap (λ x. x ∷ map unquoted s.1) (unquoted_yes c s.0 quotes) ∙ ap (map unquoted) (sym s.2)

pub lines_of-unquoted : (t : List ℕ) → lines_of (unquoted t) ≡ map unquoted (lines_of t)
lines_of-unquoted [] = refl
lines_of-unquoted (c ∷ cs) = by (begins_quotes (c ∷ cs)) refl (lines_of-unquoted cs)
  where
    cases : (a b d : Bool) → begins_quotes (c ∷ cs) ≡ false → lines_of (unquoted cs) ≡ map unquoted (lines_of cs)
        → cond a ([] ∷ lines_of (unquoted cs)) (cond b (cond d (lines_of (unquoted cs)) ([] ∷ lines_of (unquoted cs))) (onto_line c (lines_of (unquoted cs))))
        ≡ map unquoted (cond a ([] ∷ lines_of cs) (cond b (cond d (lines_of cs) ([] ∷ lines_of cs)) (onto_line c (lines_of cs))))
    cases true b d e r = ap (λ x. [] ∷ x) r
    cases false true true e r = r
    cases false true false e r = ap (λ x. [] ∷ x) r
    cases false false d e r = ap (onto_line c) r ∙ onto_unquoted c cs e

    by : (b : Bool) → begins_quotes (c ∷ cs) ≡ b → lines_of (unquoted cs) ≡ map unquoted (lines_of cs) → lines_of (unquoted (c ∷ cs)) ≡ map unquoted (lines_of (c ∷ cs))
    by true e r = ap lines_of (unquoted_yes c cs e) ∙ r ∙ sym (slash_unquoted c cs e)
    by false e r =
        ap lines_of (unquoted_no c cs e)
        ∙ ap (λ q. cond (eqb c 10) ([] ∷ lines_of (unquoted cs)) (cond (eqb c 13) (cond q (lines_of (unquoted cs)) ([] ∷ lines_of (unquoted cs))) (onto_line c (lines_of (unquoted cs))))) (first_ten cs)
        ∙ cases (eqb c 10) (eqb c 13) (eqb (get_or cs 0 0) 10) e r

-- ---- `unquoted` keeps blanks

blank_no_slash : (c : ℕ) → is_blank_char c ≡ true → eqb c 92 ≡ false
blank_no_slash c h = grind (arith, nat_tests)

pub unquoted_blank : (line : List ℕ) → is_blank (unquoted line) ≡ is_blank line
unquoted_blank [] = refl
unquoted_blank (c ∷ cs) = by (begins_quotes (c ∷ cs)) refl (unquoted_blank cs)
  where
    by : (b : Bool) → begins_quotes (c ∷ cs) ≡ b → is_blank (unquoted cs) ≡ is_blank cs → is_blank (unquoted (c ∷ cs)) ≡ (is_blank_char c && is_blank cs)
    by true e r = let q = after_quote c cs e in ap is_blank (unquoted_yes c cs e ∙ q.3) ∙ ap (λ x. is_blank_char x && is_blank cs) (sym q.0)
    by false e r = ap is_blank (unquoted_no c cs e) ∙ ap (λ b. is_blank_char c && b) r

unquoted_indent : (line : List ℕ) → indent (unquoted line) ≡ indent line
unquoted_indent [] = refl
unquoted_indent (c ∷ cs) = by (begins_quotes (c ∷ cs)) refl (unquoted_indent cs)
  where
    by : (b : Bool) → begins_quotes (c ∷ cs) ≡ b → indent (unquoted cs) ≡ indent cs → indent (unquoted (c ∷ cs)) ≡ cond (is_blank_char c) (1 + indent cs) 0
    by true e r = let q = after_quote c cs e in ap indent (unquoted_yes c cs e ∙ q.3) ∙ ap (λ x. cond (is_blank_char x) (1 + indent cs) 0) (sym q.0)
    by false e r = ap indent (unquoted_no c cs e) ∙ ap (λ n. cond (is_blank_char c) (1 + n) 0) r

unquoted_cut : (n : ℕ) (line : List ℕ) → n ≤ indent line → unquoted (drop n line) ≡ drop n (unquoted line)
unquoted_cut zero line h = refl
unquoted_cut (suc n) [] h = refl
unquoted_cut (suc n) (c ∷ cs) h = by (is_blank_char c) refl h (unquoted_cut n cs)
  where
    by : (b : Bool) → is_blank_char c ≡ b → suc n ≤ cond b (1 + indent cs) 0 → (n ≤ indent cs → unquoted (drop n cs) ≡ drop n (unquoted cs)) → unquoted (drop n cs) ≡ drop (suc n) (unquoted (c ∷ cs))
    by true e l r = r (omega arith) ∙ ap (drop (suc n)) (sym (unquoted_no c cs (not_slash c cs (blank_no_slash c e))))
    by false e l r = absurd (omega arith)

unquoted_same : (line : List ℕ) → is_blank line ≡ true → unquoted line ≡ line
unquoted_same [] h = refl
unquoted_same (c ∷ cs) h =
    let b = both (is_blank_char c) (is_blank cs) h in
    unquoted_no c cs (not_slash c cs (blank_no_slash c b.0)) ∙ ap (λ x. c ∷ x) (unquoted_same cs b.1)

unquoted_keeps : Keeps unquoted
unquoted_keeps = record { blank = unquoted_blank; front = unquoted_indent; cut = unquoted_cut; same = unquoted_same }

pub value_is : (t : List ℕ) → block_value t ≡ joined (map unquoted (to_text (from_text (dedent (lines_of t)))))
unfolding block_value
value_is t = ap (λ x. joined (to_text (from_text (dedent x)))) (lines_of-unquoted t) ∙ ap joined (keeps_value unquoted unquoted_keeps (lines_of t))
