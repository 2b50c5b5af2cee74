-- A pass over the characters of a block string finds whether it has one reading, and then by this parser and by the specification it
-- has the same value.
use Rattle.std.proofs.Common.{◌≡◌, ℕ, zero, suc, ◌+◌, ◌-◌, ◌≤◌, Bool, true, false, cond, not, eqb, ltb, nat_lt, ◌&&◌, ◌||◌, ◌⊎◌, inl, inr, min, List, [], ◌∷◌, map, length, drop, get_or, refl, sym, ap, ap₂, ◌∙◌, subst, arith}
use Rattle.std.proofs.lemmas.Bool.Decides.{nat_tests}
use Rattle.std.proofs.lemmas.List.{nil_from_length}
use Rattle.std.proofs.lemmas.List.Sums.{prefix_len-le-length}
use Rattle.std.specs.List.{AllByRecursion, list_all, list_any}
use Rattle.std.specs.Str.{chars, IsUtf8}
use Rattle.graphql_tokens.specs.tokens.BlockText.{begins_quotes, unquoted, lines_of, onto_line, is_blank_char, is_blank, indent, least, common_indent, dedented, dedent, from_text, to_text, joined, block_value}
use Rattle.graphql_tokens.specs.tokens.Place.{is_line_end}
use Rattle.graphql_tokens.proofs.BlockIndents.{indents, indents_blank, indents_text}
use Rattle.graphql_tokens.proofs.BlockLines.{lines_some}
use Rattle.graphql_tokens.proofs.BlockValue.{IsDeep, AreDeep, deep, same_all, SameBlank, from_text-map, from_text-all, to_text-map, to_text-all, quotes_at, begins_is, unquoted_yes, unquoted_no}
use Rattle.graphql_tokens.proofs.Chars.{length-chars}
use Rattle.graphql_tokens.proofs.EscapeUnits.{both}
use Rattle.graphql_layout.specs.declared.one_reading.Scan.{Scan}
use Rattle.graphql_layout.specs.inner.Scans.{ends_short, at_line_end, at_blank, at_text, step, scanned, first_scan, scan, has_blank_line}
use Rattle.graphql_layout.specs.texts.OneReading.{is_short, has_short, has_one_reading}
use Rattle.graphql_layout.specs.texts.Specified.{cut, specified_value}
use Rattle.graphql_layout.proofs.BlockLayouts.{or_false}

-- ---- Booleans

and_none : (b : Bool) → (b && false) ≡ false
and_none true = refl
and_none false = refl

or_none : (b : Bool) → (b || false) ≡ b
or_none true = refl
or_none false = refl

-- ---- the least indent and short lines, line by line

-- so many blanks are missing in a line: fewer than the indent
abbrev misses : ℕ → ℕ → Bool
misses n left = nat_lt 0 left && nat_lt left n

-- the least indent after the line, of which this is left
abbrev here : Scan → List ℕ → ℕ
here s line = cond (is_blank line) s.indent (s.indent - (s.left - indent line))

abbrev under : ℕ → List (List ℕ) → ℕ
under m [] = m
under m (line ∷ lines) = under (cond (is_blank line) m (m - (m - indent line))) lines

-- whether a short line stands between two with a text: one was met before, and so was a text after it
abbrev below : ℕ → Bool → Bool → Bool → List (List ℕ) → Bool
below n text pending found [] = found
below n text pending found (line ∷ lines) =
    cond (is_blank line) (below n text (pending || (text && misses n (n - length line))) found lines) (below n true false (found || pending) lines)

abbrev at_line : ℕ → Scan → List ℕ → List (List ℕ) → Bool
at_line n s line lines =
    cond (is_blank line) (below n s.has_text (s.is_pending || (s.has_text && misses n (s.left - length line))) s.is_cut lines) (below n true false (s.is_cut || s.is_pending) lines)

-- no more of the indent is missing than the line has, if it has a text
abbrev Fits : Scan → List ℕ → Type 0
Fits s line = is_blank line ≡ false → s.left ≤ indent line

record Scanned (n : ℕ) (s after : Scan) (line : List ℕ) (lines : List (List ℕ)) : Type 0 where
  least : after.indent ≡ under (here s line) lines
  cut : s.indent ≡ n → Fits s line → AreDeep n lines → after.is_cut ≡ at_line n s line lines

-- ---- character by character

less_none : (k : ℕ) → k ≡ k - 0
less_none k = omega arith

at_feed : (n : ℕ) (s after : Scan) (line : List ℕ) (lines : List (List ℕ)) → Scanned n (at_line_end s) after line lines → Scanned n s after [] (line ∷ lines)
at_feed n s after line lines w = record {
  least = w.least;
  cut = λ e f d. w.cut e (fits e d.0) d.1 ∙ ap₂ (λ (m l : ℕ). cond (is_blank line) (below n s.has_text ((s.is_pending || (s.has_text && misses m l)) || (s.has_text && misses n (m - length line))) s.is_cut lines) (below n true false (s.is_cut || (s.is_pending || (s.has_text && misses m l))) lines)) e (less_none s.left);
}
  where
    fits : s.indent ≡ n → IsDeep n line → Fits (at_line_end s) line
    fits e (inl b) f = absurd (cc)
    fits e (inr d) f = omega (arith, e)

at_return : (n : ℕ) (s after : Scan) (lines : List (List ℕ)) → Scanned n (at_line_end s) after [] lines → Scanned n s after [] lines
at_return n s after lines w = record {
  least = w.least;
  cut = λ e f d. w.cut e (λ b. absurd (cc)) d ∙ ap (λ (p : Bool). below n s.has_text p s.is_cut lines) (same e);
}
  where
    long : s.indent ≡ n → nat_lt (s.indent - 0) n ≡ false
    long e = let x : n ≤ s.indent - 0 = omega (arith, e) in grind (arith, nat_tests)

    none : s.indent ≡ n → misses n (s.indent - 0) ≡ false
    none e = ap (λ (b : Bool). nat_lt 0 (s.indent - 0) && b) (long e) ∙ and_none (nat_lt 0 (s.indent - 0))

    same : s.indent ≡ n → ((s.is_pending || ends_short s) || (s.has_text && misses n (s.indent - 0))) ≡ (s.is_pending || (s.has_text && misses n (s.left - 0)))
    same e =
        ap (λ (b : Bool). (s.is_pending || ends_short s) || (s.has_text && b)) (none e) ∙ ap (λ (b : Bool). (s.is_pending || ends_short s) || b) (and_none s.has_text)
        ∙ or_none (s.is_pending || ends_short s) ∙ ap₂ (λ (m l : ℕ). s.is_pending || (s.has_text && misses m l)) e (less_none s.left)

at_a_blank : (n : ℕ) (s after : Scan) (c : ℕ) (line : List ℕ) (lines : List (List ℕ)) → is_blank_char c ≡ true → Scanned n (at_blank s) after line lines → Scanned n s after (c ∷ line) lines
at_a_blank n s after c line lines q w = record {
  least = w.least ∙ ap (λ (k : ℕ). under (cond (is_blank line) s.indent (s.indent - k)) lines) (let x : s.left - 1 - indent line ≡ s.left - (1 + indent line) = omega arith in x)
      ∙ ap (λ (b : Bool). under (cond (b && is_blank line) s.indent (s.indent - (s.left - cond b (1 + indent line) 0))) lines) (sym q);
  cut = λ e f d. w.cut e (fits f) d
      ∙ ap (λ (k : ℕ). cond (is_blank line) (below n s.has_text (s.is_pending || (s.has_text && misses n k)) s.is_cut lines) (below n true false (s.is_cut || s.is_pending) lines)) (let x : s.left - 1 - length line ≡ s.left - suc (length line) = omega arith in x)
      ∙ ap (λ (b : Bool). cond (b && is_blank line) (below n s.has_text (s.is_pending || (s.has_text && misses n (s.left - suc (length line)))) s.is_cut lines) (below n true false (s.is_cut || s.is_pending) lines)) (sym q);
}
  where
    fits : Fits s (c ∷ line) → Fits (at_blank s) line
    fits f b =
        let x : s.left ≤ indent (c ∷ line) = f (ap (λ (x : Bool). x && is_blank line) q ∙ b) in
        let i : indent (c ∷ line) ≡ 1 + indent line = ap (λ (x : Bool). cond x (1 + indent line) 0) q in
        omega (arith, i, x)

at_a_text : (n : ℕ) (s after : Scan) (c : ℕ) (line : List ℕ) (lines : List (List ℕ)) → is_blank_char c ≡ false → Scanned n (at_text s) after line lines → Scanned n s after (c ∷ line) lines
at_a_text n s after c line lines q w = record {
  least = w.least ∙ ap (λ (m : ℕ). under m lines) (least (is_blank line)) ∙ ap (λ (b : Bool). under (cond (b && is_blank line) s.indent (s.indent - (s.left - cond b (1 + indent line) 0))) lines) (sym q);
  cut = λ e f d. w.cut (same e f) (λ b. omega arith) d ∙ pending (is_blank line)
      ∙ ap (λ (b : Bool). cond (b && is_blank line) (below n s.has_text (s.is_pending || (s.has_text && misses n (s.left - suc (length line)))) s.is_cut lines) (below n true false (s.is_cut || s.is_pending) lines)) (sym q);
}
  where
    least : (b : Bool) → cond b (s.indent - s.left) (s.indent - s.left - (0 - indent line)) ≡ s.indent - (s.left - 0)
    least true = omega arith
    least false = omega arith

    same : s.indent ≡ n → Fits s (c ∷ line) → s.indent - s.left ≡ n
    same e f =
        let x : s.left ≤ indent (c ∷ line) = f (ap (λ (x : Bool). x && is_blank line) q) in
        let i : indent (c ∷ line) ≡ 0 = ap (λ (x : Bool). cond x (1 + indent line) 0) q in
        omega (arith, i, x, e)

    pending : (b : Bool) → cond b (below n true (false || (true && misses n (0 - length line))) (s.is_cut || s.is_pending) lines) (below n true false ((s.is_cut || s.is_pending) || false) lines) ≡ below n true false (s.is_cut || s.is_pending) lines
    pending true = ap (λ (k : ℕ). below n true (misses n k) (s.is_cut || s.is_pending) lines) (let x : 0 - length line ≡ 0 = omega arith in x)
    pending false = ap (λ (b : Bool). below n true false b lines) (or_none (s.is_cut || s.is_pending))

abbrev Scans : ℕ → List ℕ → Type 0
Scans n cs = (s : Scan) (line : List ℕ) (lines : List (List ℕ)) → lines_of cs ≡ line ∷ lines → Scanned n s (scanned s cs) line lines

begins_feed : (cs line : List ℕ) (lines : List (List ℕ)) → eqb (get_or cs 0 0) 10 ≡ true → lines_of cs ≡ line ∷ lines → line ≡ []
begins_feed [] line lines e f = absurd (cc)
begins_feed (c ∷ cs) line lines e f =
    let is : [] ∷ lines_of cs ≡ line ∷ lines = sym (ap (λ b. cond b ([] ∷ lines_of cs) (cond (eqb c 13) (cond (eqb (get_or cs 0 0) 10) (lines_of cs) ([] ∷ lines_of cs)) (onto_line c (lines_of cs)))) e) ∙ f in
    cc

scans : (n : ℕ) (cs : List ℕ) → Scans n cs
scans n [] s line lines e =
    let no_line : line ≡ [] = cc in
    let none : lines ≡ [] = cc in
    subst (λ (l : List (List ℕ)). Scanned n s s line l) (sym none) (subst (λ (l : List ℕ). Scanned n s s l []) (sym no_line) record { least = refl; cut = λ e f d. refl })
scans n (c ∷ cs) s line lines e =
    let more = lines_some cs in
    by (eqb c 10) (eqb c 13) (eqb (get_or cs 0 0) 10) (is_blank_char c) refl refl e more.0 more.1 more.2 (scans n cs)
  where
    feed : (next : List ℕ) (others : List (List ℕ)) → lines_of cs ≡ next ∷ others → Scans n cs → [] ∷ lines_of cs ≡ line ∷ lines → Scanned n s (scanned (at_line_end s) cs) line lines
    feed next others is more e =
        let no_line : line ≡ [] = cc in
        let all : lines ≡ next ∷ others = cc in
        subst (λ (l : List (List ℕ)). Scanned n s (scanned (at_line_end s) cs) line l) (sym all) (subst (λ (l : List ℕ). Scanned n s (scanned (at_line_end s) cs) l (next ∷ others)) (sym no_line)
        (at_feed n s (scanned (at_line_end s) cs) next others (more (at_line_end s) next others is)))

    onto : (after : Scan) (next : List ℕ) (others : List (List ℕ)) → lines_of cs ≡ next ∷ others → onto_line c (lines_of cs) ≡ line ∷ lines → Scanned n s after (c ∷ next) others → Scanned n s after line lines
    onto after next others is e w =
        let whole : (c ∷ next) ∷ others ≡ line ∷ lines = sym (ap (onto_line c) is) ∙ e in
        let front : c ∷ next ≡ line = cc in
        let back : others ≡ lines = cc in
        subst (λ (l : List (List ℕ)). Scanned n s after line l) back (subst (λ (l : List ℕ). Scanned n s after l others) front w)

    by : (a b g f : Bool) → eqb (get_or cs 0 0) 10 ≡ g → is_blank_char c ≡ f
        → cond a ([] ∷ lines_of cs) (cond b (cond g (lines_of cs) ([] ∷ lines_of cs)) (onto_line c (lines_of cs))) ≡ line ∷ lines
        → (next : List ℕ) (others : List (List ℕ)) → lines_of cs ≡ next ∷ others → Scans n cs
        → Scanned n s (scanned (cond (a || b) (at_line_end s) (cond f (at_blank s) (at_text s))) cs) line lines
    by true b g f p q e next others is more = feed next others is more e
    by false true false f p q e next others is more = feed next others is more e
    by false true true f p q e next others is more =
        let no_line : line ≡ [] = begins_feed cs line lines p e in
        let after = scanned (at_line_end s) cs in
        let w : Scanned n (at_line_end s) after [] lines = subst (λ (l : List ℕ). Scanned n (at_line_end s) after l lines) no_line (more (at_line_end s) line lines e) in
        subst (λ (l : List ℕ). Scanned n s after l lines) (sym no_line) (at_return n s after lines w)
    by false false g true p q e next others is more =
        let after = scanned (at_blank s) cs in
        onto after next others is e (at_a_blank n s after c next others q (more (at_blank s) next others is))
    by false false g false p q e next others is more =
        let after = scanned (at_text s) cs in
        onto after next others is e (at_a_text n s after c next others q (more (at_text s) next others is))

-- ---- backslashes before quotes make no difference

abbrev text_scan : ℕ → Bool → Scan
text_scan most b = record { indent = most; left = 0; has_text = true; is_pending = false; is_cut = b }

text_twice : (s : Scan) → at_text (at_text s) ≡ at_text s
text_twice s = ap₂ text_scan (let n : s.indent - s.left - 0 ≡ s.indent - s.left = omega arith in n) (or_none (s.is_cut || s.is_pending))

slash_then : (s : Scan) (c q : ℕ) → eqb c 92 ≡ true → eqb q 34 ≡ true → step (step s c) q ≡ step s q
slash_then s c q e f =
    let slash : c ≡ 92 = grind (arith, nat_tests) in
    let quote : q ≡ 34 = grind (arith, nat_tests) in
    rw (slash, quote) (text_twice s)

scanned_unquoted : (cs : List ℕ) (s : Scan) → scanned s (unquoted cs) ≡ scanned s cs
scanned_unquoted [] s = refl
scanned_unquoted (c ∷ cs) s = by (begins_quotes (c ∷ cs)) refl (scanned_unquoted cs)
  where
    quoted : (cs : List ℕ) → (eqb c 92 && quotes_at 3 cs) ≡ true → scanned s cs ≡ scanned (step s c) cs
    quoted [] e = let no = (both (eqb c 92) (quotes_at 3 []) e).1 in absurd (cc)
    quoted (q ∷ rest) e =
        let a = both (eqb c 92) (quotes_at 3 (q ∷ rest)) e in
        let b = both (eqb q 34) (quotes_at 2 rest) a.1 in
        ap (λ (x : Scan). scanned x rest) (sym (slash_then s c q a.0 b.0))

    by : (b : Bool) → begins_quotes (c ∷ cs) ≡ b → ((x : Scan) → scanned x (unquoted cs) ≡ scanned x cs) → scanned s (unquoted (c ∷ cs)) ≡ scanned s (c ∷ cs)
    by true e r = ap (scanned s) (unquoted_yes c cs e) ∙ r s ∙ quoted cs (sym (begins_is c cs) ∙ e)
    by false e r = ap (scanned s) (unquoted_no c cs e) ∙ r (step s c)

-- ---- no indent is longer than the text

abbrev AllFit : ℕ → List (List ℕ) → Type 0
AllFit k lines = AllByRecursion (λ line. length line ≤ k) lines

fit_more : (j k : ℕ) (lines : List (List ℕ)) → j ≤ k → AllFit j lines → AllFit k lines
fit_more j k [] l h = tt
fit_more j k (line ∷ lines) l h = ((let x : length line ≤ j = h.0 in omega arith), fit_more j k lines l h.1)

onto_fit : (c k : ℕ) (lines : List (List ℕ)) → AllFit k lines → AllFit (suc k) (onto_line c lines)
onto_fit c k [] h = (omega arith, tt)
onto_fit c k (line ∷ lines) h = ((let x : length line ≤ k = h.0 in omega arith), fit_more k (suc k) lines (omega arith) h.1)

lines_fit : (cs : List ℕ) → AllFit (length cs) (lines_of cs)
lines_fit [] = (omega arith, tt)
lines_fit (c ∷ cs) = by (eqb c 10) (eqb c 13) (eqb (get_or cs 0 0) 10) (lines_fit cs)
  where
    by : (a b d : Bool) → AllFit (length cs) (lines_of cs) → AllFit (suc (length cs)) (cond a ([] ∷ lines_of cs) (cond b (cond d (lines_of cs) ([] ∷ lines_of cs)) (onto_line c (lines_of cs))))
    by true b d r = (omega arith, fit_more (length cs) (suc (length cs)) (lines_of cs) (omega arith) r)
    by false true true r = fit_more (length cs) (suc (length cs)) (lines_of cs) (omega arith) r
    by false true false r = (omega arith, fit_more (length cs) (suc (length cs)) (lines_of cs) (omega arith) r)
    by false false d r = onto_fit c (length cs) (lines_of cs) r

abbrev AllUpTo : ℕ → List ℕ → Type 0
AllUpTo k ns = AllByRecursion (λ n. n ≤ k) ns

indents_fit : (k : ℕ) (lines : List (List ℕ)) → AllFit k lines → AllUpTo k (indents lines)
indents_fit k [] h = tt
indents_fit k (line ∷ lines) h = by (is_blank line) refl (indents_fit k lines h.1)
  where
    by : (b : Bool) → is_blank line ≡ b → AllUpTo k (indents lines) → AllUpTo k (indents (line ∷ lines))
    by true e r = subst (AllUpTo k) (sym (indents_blank line lines e)) r
    by false e r =
        let x : length line ≤ k = h.0 in
        subst (AllUpTo k) (sym (indents_text line lines e)) (omega (arith, prefix_len-le-length is_blank_char line), r)

least_fits : (k : ℕ) (ns : List ℕ) → AllUpTo k ns → least ns ≤ k
least_fits k [] h = omega arith
least_fits k (n ∷ []) h = h.0
least_fits k (n ∷ m ∷ ns) h = let x : n ≤ k = h.0 in omega arith

unquoted_fits : (cs : List ℕ) → length (unquoted cs) ≤ length cs
unquoted_fits [] = omega arith
unquoted_fits (c ∷ cs) = by (begins_quotes (c ∷ cs)) (unquoted_fits cs)
  where
    by : (b : Bool) → length (unquoted cs) ≤ length cs → length (cond b (unquoted cs) (c ∷ unquoted cs)) ≤ suc (length cs)
    by true r = omega arith
    by false r = omega arith

common_fits : (raw first : List ℕ) (others : List (List ℕ)) → IsUtf8 raw → lines_of (unquoted (chars raw)) ≡ first ∷ others → common_indent others ≤ length raw
common_fits raw first others u e =
    let cs : List ℕ = chars raw in
    let all : AllFit (length (unquoted cs)) (first ∷ others) = subst (AllFit (length (unquoted cs))) e (lines_fit (unquoted cs)) in
    let within = least_fits (length (unquoted cs)) (indents others) (indents_fit (length (unquoted cs)) others all.1) in
    omega (arith, within, unquoted_fits cs, length-chars raw u)

-- ---- the least indent is the common one

abbrev mins : ℕ → List ℕ → ℕ
mins m [] = m
mins m (n ∷ ns) = mins (m - (m - n)) ns

under_mins : (m : ℕ) (lines : List (List ℕ)) → under m lines ≡ mins m (indents lines)
under_mins m [] = refl
under_mins m (line ∷ lines) = by (is_blank line) refl (λ (k : ℕ). under_mins k lines)
  where
    by : (b : Bool) → is_blank line ≡ b → ((k : ℕ) → under k lines ≡ mins k (indents lines)) → under (cond b m (m - (m - indent line))) lines ≡ mins m (indents (line ∷ lines))
    by true e r = r m ∙ ap (mins m) (sym (indents_blank line lines e))
    by false e r = r (m - (m - indent line)) ∙ ap (mins m) (sym (indents_text line lines e))

mins_least : (m n : ℕ) (ns : List ℕ) → mins m (n ∷ ns) ≡ min m (least (n ∷ ns))
mins_least m n [] = omega arith
mins_least m n (k ∷ ks) = omega (arith, mins_least (m - (m - n)) k ks)

all_blank : (lines : List (List ℕ)) → indents lines ≡ [] → list_all is_blank lines ≡ true
all_blank [] h = refl
all_blank (line ∷ lines) h = by (is_blank line) refl (all_blank lines)
  where
    by : (b : Bool) → is_blank line ≡ b → (indents lines ≡ [] → list_all is_blank lines ≡ true) → (b && list_all is_blank lines) ≡ true
    by true e r = r (sym (indents_blank line lines e) ∙ h)
    by false e r = let no = sym (indents_text line lines e) ∙ h in absurd (cc)

least_found : (m : ℕ) (lines : List (List ℕ)) → common_indent lines ≤ m → (under m lines ≡ common_indent lines) ⊎ (list_all is_blank lines ≡ true)
least_found m lines l = by (indents lines) refl
  where
    by : (ns : List ℕ) → indents lines ≡ ns → (under m lines ≡ common_indent lines) ⊎ (list_all is_blank lines ≡ true)
    by [] e = inr (all_blank lines e)
    by (n ∷ ns) e = inl (omega (arith, under_mins m lines, ap (mins m) e, mins_least m n ns, ap least e, l))

blank_deep : (n : ℕ) (lines : List (List ℕ)) → list_all is_blank lines ≡ true → AreDeep n lines
blank_deep n [] h = tt
blank_deep n (line ∷ lines) h = let b = both (is_blank line) (list_all is_blank lines) h in (inl b.0, blank_deep n lines b.1)

-- ---- short lines among those from the first text to the last

-- as many are missing as it doesn't have
misses_is : (n k : ℕ) → misses n (n - k) ≡ misses n k
misses_is n k = by (nat_lt 0 k) (nat_lt k n) refl refl
  where
    by : (a b : Bool) → nat_lt 0 k ≡ a → nat_lt k n ≡ b → misses n (n - k) ≡ (a && b)
    by true true e f =
        let x : nat_lt 0 (n - k) ≡ true = grind (arith, nat_tests) in
        let y : nat_lt (n - k) n ≡ true = grind (arith, nat_tests) in
        ap₂ (λ (a b : Bool). a && b) x y
    by true false e f =
        let x : nat_lt 0 (n - k) ≡ false = grind (arith, nat_tests) in
        ap (λ (a : Bool). a && nat_lt (n - k) n) x
    by false b e f =
        let y : nat_lt (n - k) n ≡ false = grind (arith, nat_tests) in
        ap (λ (b : Bool). nat_lt 0 (n - k) && b) y ∙ and_none (nat_lt 0 (n - k))

none_kept : (lines : List (List ℕ)) → list_all is_blank lines ≡ true → to_text lines ≡ []
none_kept [] h = refl
none_kept (line ∷ lines) h = ap (λ (b : Bool). cond b [] (line ∷ to_text lines)) h

abbrev shorts : ℕ → List (List ℕ) → Bool
shorts n lines = list_any (is_short n) (to_text lines)

kept_any : (P : List ℕ → Bool) (b : Bool) (line : List ℕ) (lines : List (List ℕ)) → cond b false (P line || list_any P lines) ≡ list_any P (cond b [] (line ∷ lines))
kept_any P true line lines = refl
kept_any P false line lines = refl

-- after a line that isn't blank
after_text : (n : ℕ) (pending found : Bool) (lines : List (List ℕ)) → below n true pending found lines ≡ (found || ((not (list_all is_blank lines) && pending) || shorts n lines))
after_text n pending found [] = sym (or_none found)
after_text n pending found (line ∷ lines) =
    by (is_blank line) (list_all is_blank lines) refl (λ (p f : Bool). after_text n p f lines)
    ∙ ap (λ (x : Bool). found || ((not (is_blank line && list_all is_blank lines) && pending) || x)) (kept_any (is_short n) (is_blank line && list_all is_blank lines) line (to_text lines))
  where
    text : (a p f x : Bool) → ((f || p) || ((not a && false) || x)) ≡ (f || (p || x))
    text a p true x = refl
    text a true false x = refl
    text true false false x = refl
    text false false false x = refl

    blank : (p f g x : Bool) → (f || ((p || g) || x)) ≡ (f || (p || (g || x)))
    blank p true g x = refl
    blank true false g x = refl
    blank false false g x = refl

    by : (b a : Bool) → list_all is_blank lines ≡ a
        → ((p f : Bool) → below n true p f lines ≡ (f || ((not (list_all is_blank lines) && p) || shorts n lines)))
        → cond b (below n true (pending || misses n (n - length line)) found lines) (below n true false (found || pending) lines)
        ≡ (found || ((not (b && a) && pending) || cond (b && a) false ((b && misses n (length line)) || shorts n lines)))
    by false a e r = r false (found || pending) ∙ text (list_all is_blank lines) pending found (shorts n lines)
    by true true e r =
        r (pending || misses n (n - length line)) found ∙ ap (λ (x : Bool). found || ((not x && (pending || misses n (n - length line))) || shorts n lines)) e
        ∙ ap (λ (l : List (List ℕ)). found || list_any (is_short n) l) (none_kept lines e)
    by true false e r =
        r (pending || misses n (n - length line)) found ∙ ap (λ (x : Bool). found || ((not x && (pending || misses n (n - length line))) || shorts n lines)) e
        ∙ blank pending found (misses n (n - length line)) (shorts n lines) ∙ ap (λ (g : Bool). found || (pending || (g || shorts n lines))) (misses_is n (length line))

before_text : (n : ℕ) (lines : List (List ℕ)) → below n false false false lines ≡ list_any (is_short n) (to_text (from_text lines))
before_text n [] = refl
before_text n (line ∷ lines) = by (is_blank line) refl (before_text n lines)
  where
    none : (a x : Bool) → ((not a && false) || x) ≡ x
    none true x = refl
    none false x = refl

    by : (b : Bool) → is_blank line ≡ b → below n false false false lines ≡ list_any (is_short n) (to_text (from_text lines))
        → cond b (below n false false false lines) (below n true false false lines) ≡ list_any (is_short n) (to_text (cond b (from_text lines) (line ∷ lines)))
    by true e r = r
    by false e r =
        after_text n false false lines ∙ none (list_all is_blank lines) (shorts n lines)
        ∙ ap (λ (b : Bool). cond (b && list_all is_blank lines) false ((b && misses n (length line)) || shorts n lines)) (sym e)
        ∙ kept_any (is_short n) (is_blank line && list_all is_blank lines) line (to_text lines)

blank_below : (n : ℕ) (text pending found : Bool) (lines : List (List ℕ)) → list_all is_blank lines ≡ true → below n text pending found lines ≡ found
blank_below n text pending found [] h = refl
blank_below n text pending found (line ∷ lines) h =
    let b = both (is_blank line) (list_all is_blank lines) h in
    let next = pending || (text && misses n (n - length line)) in
    ap (λ (x : Bool). cond x (below n text next found lines) (below n true false (found || pending) lines)) b.0 ∙ blank_below n text next found lines b.1

-- where only the first line may have a text, no line is short
none_below : (n : ℕ) (first : List ℕ) (lines : List (List ℕ)) → list_all is_blank lines ≡ true → list_any (is_short n) (to_text (from_text (first ∷ lines))) ≡ false
none_below n first lines h = sym (before_text n (first ∷ lines)) ∙ by (is_blank first)
  where
    by : (b : Bool) → cond b (below n false false false lines) (below n true false false lines) ≡ false
    by true = blank_below n false false false lines h
    by false = blank_below n true false false lines h

-- ---- what a pass finds

found_short : (raw first : List ℕ) (others : List (List ℕ)) → IsUtf8 raw → lines_of (unquoted (chars raw)) ≡ first ∷ others
    → (scan (scan (length raw) (chars raw)).indent (chars raw)).is_cut ≡ has_short (first ∷ others)
found_short raw first others u e = by (least_found (length raw) others (common_fits raw first others u e))
  where
    start : (b : Bool) → cond b (length raw) (length raw - (0 - indent first)) ≡ length raw
    start true = refl
    start false = omega arith

    indented : (scan (length raw) (chars raw)).indent ≡ under (length raw) others
    indented =
        ap (λ (s : Scan). s.indent) (sym (scanned_unquoted (chars raw) (first_scan (length raw)))) ∙ (scans 0 (unquoted (chars raw)) (first_scan (length raw)) first others e).least
        ∙ ap (λ (k : ℕ). under k others) (start (is_blank first))

    cut : (m n : ℕ) → m ≡ n → AreDeep n others → (scan m (chars raw)).is_cut ≡ list_any (is_short n) (to_text (from_text (first ∷ others)))
    cut m n f d =
        ap (λ (s : Scan). s.is_cut) (sym (scanned_unquoted (chars raw) (first_scan m))) ∙ (scans n (unquoted (chars raw)) (first_scan m) first others e).cut f (λ b. omega arith) d
        ∙ before_text n (first ∷ others)

    by : (under (length raw) others ≡ common_indent others) ⊎ (list_all is_blank others ≡ true) → (scan (scan (length raw) (chars raw)).indent (chars raw)).is_cut ≡ has_short (first ∷ others)
    by (inl h) = cut (scan (length raw) (chars raw)).indent (common_indent others) (indented ∙ h) (deep others)
    by (inr h) =
        let m = (scan (length raw) (chars raw)).indent in
        cut m m refl (blank_deep m others h) ∙ none_below m first others h ∙ sym (none_below (common_indent others) first others h)

pub told_by_scans : (raw : List ℕ) → IsUtf8 raw → not (scan (scan (length raw) (chars raw)).indent (chars raw)).is_cut ≡ has_one_reading raw
unfolding has_one_reading
told_by_scans raw u =
    let s = lines_some (unquoted (chars raw)) in
    ap not (found_short raw s.0 s.1 u s.2 ∙ ap has_short (sym s.2))

-- ---- where no line but empty ones is blank

never_cut : (cs : List ℕ) (blank some : Bool) (s : Scan) → s.is_pending ≡ false → s.is_cut ≡ false → (nat_lt 0 s.left ≡ true → blank ≡ true) → (ends_short s ≡ true → some ≡ true)
    → has_blank_line blank some cs ≡ false → (scanned s cs).is_cut ≡ false
never_cut [] blank some s p e f g h = e
never_cut (c ∷ cs) blank some s p e f g h = by (is_line_end c) (is_blank_char c) (ends_short s) refl refl h (λ (b t : Bool) (x : Scan). never_cut cs b t x)
  where
    long : nat_lt s.indent s.indent ≡ false
    long = grind (arith, nat_tests)

    fewer : nat_lt 0 (s.left - 1) ≡ true → nat_lt 0 s.left ≡ true
    fewer l = grind (arith, nat_tests)

    whole : ends_short (at_line_end s) ≡ true → ⊥
    whole g =
        let none : nat_lt s.indent s.indent ≡ false = long in
        let one = both s.has_text (nat_lt 0 s.indent && nat_lt s.indent s.indent) g in
        let two = both (nat_lt 0 s.indent) (nat_lt s.indent s.indent) one.1 in
        cc

    short : ends_short s ≡ true → (blank && some) ≡ true
    short d =
        let one = both s.has_text (nat_lt 0 s.left && nat_lt s.left s.indent) d in
        let two = both (nat_lt 0 s.left) (nat_lt s.left s.indent) one.1 in
        ap₂ (λ (i j : Bool). i && j) (f two.0) (g d)

    by : (a b d : Bool) → is_blank_char c ≡ b → ends_short s ≡ d → cond a ((blank && some) || has_blank_line true false cs) (has_blank_line (blank && b) true cs) ≡ false
        → ((blank some : Bool) (x : Scan) → x.is_pending ≡ false → x.is_cut ≡ false → (nat_lt 0 x.left ≡ true → blank ≡ true) → (ends_short x ≡ true → some ≡ true) → has_blank_line blank some cs ≡ false → (scanned x cs).is_cut ≡ false)
        → (scanned (cond a (at_line_end s) (cond b (at_blank s) (at_text s))) cs).is_cut ≡ false
    by true b true y z h r = let no = short z in let none = (or_false (blank && some) (has_blank_line true false cs) h).0 in absurd (cc)
    by true b false y z h r = r true false (at_line_end s) (ap₂ (λ (i j : Bool). i || j) p z) e (λ l. refl) (λ l. absurd (whole l)) (or_false (blank && some) (has_blank_line true false cs) h).1
    by false true d y z h r = r (blank && true) true (at_blank s) p e (λ l. ap (λ (i : Bool). i && true) (f (fewer l))) (λ l. refl) h
    by false false d y z h r = r (blank && false) true (at_text s) refl (ap₂ (λ (i j : Bool). i || j) e p) (λ l. absurd (cc)) (λ l. refl) h

pub told_by_lines : (raw : List ℕ) → IsUtf8 raw → has_blank_line true false (chars raw) ≡ false → true ≡ has_one_reading raw
told_by_lines raw u h =
    let m : ℕ = (scan (length raw) (chars raw)).indent in
    ap not (sym (never_cut (chars raw) true false (first_scan m) refl refl (λ l. refl) (λ l. absurd (cc)) h)) ∙ told_by_scans raw u

-- ---- lines that are empty or as long as the indent

abbrev pub IsWhole : ℕ → List ℕ → Type 0
IsWhole n line = (line ≡ []) ⊎ (n ≤ length line)

abbrev pub AreWhole : ℕ → List (List ℕ) → Type 0
AreWhole n lines = AllByRecursion (IsWhole n) lines

whole : (n : ℕ) (line : List ℕ) → IsDeep n line → is_short n line ≡ false → IsWhole n line
whole n line (inr d) s = inr (omega (arith, prefix_len-le-length is_blank_char line))
whole n line (inl b) s = by (nat_lt 0 (length line)) (nat_lt (length line) n) refl refl (sym (ap (λ (x : Bool). x && (nat_lt 0 (length line) && nat_lt (length line) n)) b) ∙ s)
  where
    by : (a b : Bool) → nat_lt 0 (length line) ≡ a → nat_lt (length line) n ≡ b → (a && b) ≡ false → IsWhole n line
    by false b e f g = inl (nil_from_length line (grind (arith, nat_tests)))
    by true false e f g = inr (grind (arith, nat_tests))
    by true true e f g = absurd (cc)

wholes : (n : ℕ) (lines : List (List ℕ)) → AreDeep n lines → list_any (is_short n) lines ≡ false → AreWhole n lines
wholes n [] d h = tt
wholes n (line ∷ lines) d h = let f = or_false (is_short n line) (list_any (is_short n) lines) h in (whole n line d.0 f.0, wholes n lines d.1 f.1)

-- those after the first line
kept_whole : (n : ℕ) (first : List ℕ) (others : List (List ℕ)) → AreDeep n others → list_any (is_short n) (to_text (from_text (first ∷ others))) ≡ false → AreWhole n (to_text (cond (is_blank first) (from_text others) others))
kept_whole n first others d h = by (is_blank first) refl h
  where
    all : (b : Bool) → AreDeep n (to_text (cond b (from_text others) others))
    all true = to_text-all (IsDeep n) (from_text others) (from_text-all (IsDeep n) others d)
    all false = to_text-all (IsDeep n) others d

    by : (b : Bool) → is_blank first ≡ b → list_any (is_short n) (to_text (cond b (from_text others) (first ∷ others))) ≡ false → AreWhole n (to_text (cond b (from_text others) others))
    by true e g = wholes n (to_text (from_text others)) (all true) g
    by false e g =
        let more : list_any (is_short n) (first ∷ to_text others) ≡ false = sym (ap (λ (x : Bool). list_any (is_short n) (cond (x && list_all is_blank others) [] (first ∷ to_text others))) e) ∙ g in
        wholes n (to_text others) (all false) (or_false (is_short n first) (shorts n others) more).1

-- ---- both cut whole lines alike

drop_none : (n : ℕ) → drop {A = ℕ} n [] ≡ []
drop_none zero = refl
drop_none (suc n) = refl

pub whole_same : (n : ℕ) (line : List ℕ) → IsWhole n line → drop n line ≡ dedented n line
whole_same n line (inl e) = rw e (by (ltb 0 n))
  where
    by : (b : Bool) → drop {A = ℕ} n [] ≡ cond b [] (drop n [])
    by true = drop_none n
    by false = refl
whole_same n line (inr h) = let long : ltb (length line) n ≡ false = grind (arith, nat_tests) in sym (ap (λ (b : Bool). cond b line (drop n line)) long)

pub wholes_same : (n : ℕ) (lines : List (List ℕ)) → AreWhole n lines → map (drop n) lines ≡ map (dedented n) lines
wholes_same n [] h = refl
wholes_same n (line ∷ lines) h = ap₂ (λ (l : List ℕ) (ls : List (List ℕ)). l ∷ ls) (whole_same n line h.0) (wholes_same n lines h.1)

drop_blank : (n : ℕ) (line : List ℕ) → is_blank line ≡ true → is_blank (drop n line) ≡ true
drop_blank zero line h = h
drop_blank (suc n) [] h = h
drop_blank (suc n) (c ∷ cs) h = drop_blank n cs (both (is_blank_char c) (is_blank cs) h).1

same_blank : (n : ℕ) (lines : List (List ℕ)) → AreDeep n lines → SameBlank (drop n) lines
same_blank n [] h = tt
same_blank n (line ∷ lines) h = (by h.0, same_blank n lines h.1)
  where
    by : IsDeep n line → is_blank (drop n line) ≡ is_blank line
    by (inl e) = drop_blank n line e ∙ sym e
    by (inr d) = ap is_blank (whole_same n line (inr (omega (arith, prefix_len-le-length is_blank_char line)))) ∙ (same_all n (line ∷ []) (inr d, tt)).0

-- from the first text on, and up to the last
between : (g : List ℕ → List ℕ) (b : Bool) (lines : List (List ℕ)) → SameBlank g lines → to_text (cond b (from_text (map g lines)) (map g lines)) ≡ map g (to_text (cond b (from_text lines) lines))
between g true lines h = ap to_text (from_text-map g lines h) ∙ to_text-map g (from_text lines) (from_text-all (λ line. is_blank (g line) ≡ is_blank line) lines h)
between g false lines h = to_text-map g lines h

-- the first line and what is left of the others
left_of_lines : (b : Bool) (first : List ℕ) (lines : List (List ℕ)) → is_blank first ≡ b → to_text (from_text (first ∷ lines)) ≡ cond b (to_text (cond b (from_text lines) lines)) (first ∷ to_text (cond b (from_text lines) lines))
left_of_lines true first lines e = ap (λ (x : Bool). to_text (cond x (from_text lines) (first ∷ lines))) e
left_of_lines false first lines e =
    ap (λ (x : Bool). to_text (cond x (from_text lines) (first ∷ lines))) e ∙ ap (λ (x : Bool). cond (x && list_all is_blank lines) [] (first ∷ to_text lines)) e

pub cut_same : (first : List ℕ) (others : List (List ℕ)) → AreWhole (common_indent others) (to_text (cond (is_blank first) (from_text others) others)) → to_text (from_text (cut (first ∷ others))) ≡ to_text (from_text (dedent (first ∷ others)))
cut_same first others h =
    let n = common_indent others in
    let b = is_blank first in
    let mine = between (dedented n) b others (same_all n others (deep others)) in
    let specified = between (drop n) b others (same_blank n others (deep others)) in
    let same = specified ∙ wholes_same n (to_text (cond b (from_text others) others)) h ∙ sym mine in
    left_of_lines b first (map (drop n) others) refl
    ∙ ap (λ (ls : List (List ℕ)). cond b ls (first ∷ ls)) same
    ∙ sym (left_of_lines b first (map (dedented n) others) refl)

-- ---- the whole

pub same_values : (raw first : List ℕ) (others : List (List ℕ)) → lines_of (unquoted raw) ≡ first ∷ others → AreWhole (common_indent others) (to_text (cond (is_blank first) (from_text others) others)) → specified_value raw ≡ block_value raw
unfolding specified_value block_value
same_values raw first others e h =
    ap (λ (l : List (List ℕ)). joined (to_text (from_text (cut l)))) e ∙ ap joined (cut_same first others h) ∙ sym (ap (λ (l : List (List ℕ)). joined (to_text (from_text (dedent l)))) e)

pub one_reading : (raw : List ℕ) → has_one_reading raw ≡ true → specified_value (chars raw) ≡ block_value (chars raw)
unfolding has_one_reading
one_reading raw h =
    let s = lines_some (unquoted (chars raw)) in
    let none : has_short (s.0 ∷ s.1) ≡ false = sym (ap has_short s.2) ∙ not_true (has_short (lines_of (unquoted (chars raw)))) h in
    same_values (chars raw) s.0 s.1 s.2 (kept_whole (common_indent s.1) s.0 s.1 (deep s.1) none)
  where
    not_true : (b : Bool) → not b ≡ true → b ≡ false
    not_true true h = absurd (cc)
    not_true false h = refl
