-- The common indent of lines, found line by line.
use Rattle.std.proofs.Common.{◌≡◌, ◌≢◌, ℕ, ◌+◌, ◌-◌, ◌≤◌, ◌<◌, Bool, true, false, cond, not, eqb, min, List, [], ◌∷◌, map, filter, length, take, drop, Option, Some, None, unwrap_or, refl, sym, ap, ◌∙◌, arith}
use Rattle.std.proofs.lemmas.Bool.Decides.{nat_tests}
use Rattle.std.specs.List.{prefix_len}
use Rattle.graphql_tokens.specs.tokens.Place.{is_in_line}
use Rattle.graphql_tokens.specs.tokens.BlockText.{lines_of, is_blank_char, is_blank, indent, least}
use Rattle.graphql_tokens.specs.inner.Blocks.{end_len, counted, indent_with}
use Rattle.graphql_tokens.proofs.BlockLines.{line_between, line_from_blanks, line_at_end, line_before, len_blank, not_blank}

-- the least of these and the one that was found before
abbrev pub least_with : Option ℕ → List ℕ → ℕ
least_with None ns = least ns
least_with (Some m) ns = least (m ∷ ns)

abbrev pub indents : List (List ℕ) → List ℕ
indents lines = map indent (filter (λ line. not (is_blank line)) lines)

pub least_once : (m n : ℕ) (ns : List ℕ) → least (m ∷ n ∷ ns) ≡ least (min m n ∷ ns)
least_once m n [] = refl
least_once m n (k ∷ ks) = omega arith

pub indents_blank : (line : List ℕ) (lines : List (List ℕ)) → is_blank line ≡ true → indents (line ∷ lines) ≡ indents lines
indents_blank line lines h = ap (λ b. map indent (cond (not b) (line ∷ filter (λ line. not (is_blank line)) lines) (filter (λ line. not (is_blank line)) lines))) h

pub indents_text : (line : List ℕ) (lines : List (List ℕ)) → is_blank line ≡ false → indents (line ∷ lines) ≡ indent line ∷ indents lines
indents_text line lines h = ap (λ b. map indent (cond (not b) (line ∷ filter (λ line. not (is_blank line)) lines) (filter (λ line. not (is_blank line)) lines))) h

counted_all : (lines : List (List ℕ)) → counted true lines ≡ lines
counted_all [] = refl
counted_all (line ∷ lines) = refl

-- one line more
step : (found : Option ℕ) (counts : Bool) (line : List ℕ) (lines : List (List ℕ)) (blanks len : ℕ) → indent line ≡ blanks → length line ≡ len
    → least_with (indent_with found counts blanks len) (indents lines) ≡ least_with found (indents (counted counts (line ∷ lines)))
step None false line lines blanks len i l = refl
step (Some m) false line lines blanks len i l = refl
step found true line lines blanks len i l = by found (eqb blanks len) refl
  where
    some : eqb blanks len ≡ false → is_blank line ≡ false
    some e = let n : blanks ≢ len = grind (arith, nat_tests) in not_blank line (λ x. n (sym i ∙ x ∙ l))

    none : eqb blanks len ≡ true → is_blank line ≡ true
    none e = let n : blanks ≡ len = grind (arith, nat_tests) in len_blank line (i ∙ n ∙ sym l)

    by : (found : Option ℕ) (b : Bool) → eqb blanks len ≡ b → least_with (indent_with found true blanks len) (indents lines) ≡ least_with found (indents (line ∷ lines))
    by None true e = ap (λ b. least_with (cond b None (Some blanks)) (indents lines)) e ∙ ap least (sym (indents_blank line lines (none e)))
    by None false e = ap (λ b. least_with (cond b None (Some blanks)) (indents lines)) e ∙ ap (λ x. least (x ∷ indents lines)) (sym i) ∙ ap least (sym (indents_text line lines (some e)))
    by (Some m) true e = ap (λ b. least_with (cond b (Some m) (Some (min m blanks))) (indents lines)) e ∙ ap (λ x. least (m ∷ x)) (sym (indents_blank line lines (none e)))
    by (Some m) false e =
        ap (λ b. least_with (cond b (Some m) (Some (min m blanks))) (indents lines)) e ∙ sym (least_once m blanks (indents lines)) ∙ ap (λ x. least (m ∷ x ∷ indents lines)) (sym i)
        ∙ ap (λ x. least (m ∷ x)) (sym (indents_text line lines (some e)))

least_all : (found : Option ℕ) → unwrap_or found 0 ≡ least_with found []
least_all None = refl
least_all (Some m) = refl

-- by offsets: the blanks of the line from `at` on end at `text`, and the line at `end`
line_step : (bs : List ℕ) (found : Option ℕ) (counts : Bool) (lines : List (List ℕ)) (at text end : ℕ) → at ≤ length bs → text ≡ at + prefix_len is_blank_char (drop at bs) → end ≡ at + prefix_len is_in_line (drop at bs)
    → least_with (indent_with found counts (text - at) (end - at)) (indents lines) ≡ least_with found (indents (counted counts (take (end - at) (drop at bs) ∷ lines)))
line_step bs found counts lines at text end w e f =
    let l = line_between bs at end f w in
    step found counts (take (end - at) (drop at bs)) lines (text - at) (end - at) (omega (arith, l.indented)) l.long

pub indent_end : (bs : List ℕ) (found last : Option ℕ) (counts : Bool) (n at text end : ℕ) → at ≤ length bs → text ≤ length bs → text ≡ at + prefix_len is_blank_char (drop at bs) → end ≡ text + prefix_len is_in_line (drop text bs)
    → end ≡ length bs → last ≡ indent_with found counts (text - at) (end - at) → least_with found (indents (counted counts (lines_of (drop at bs)))) ≡ n → unwrap_or last 0 ≡ n
indent_end bs found last counts n at text end w v e f g is h =
    let line = line_from_blanks bs at text end e v f in
    least_all last ∙ ap (λ o. least_with o []) is ∙ line_step bs found counts [] at text end w e line
    ∙ ap (λ ls. least_with found (indents (counted counts ls))) (sym (line_at_end bs at end line g w)) ∙ h

pub indent_more : (bs : List ℕ) (found more : Option ℕ) (counts : Bool) (n at text end next : ℕ) → at ≤ length bs → text ≤ length bs → text ≡ at + prefix_len is_blank_char (drop at bs) → end ≡ text + prefix_len is_in_line (drop text bs)
    → end < length bs → next ≡ end + end_len (drop end bs) → more ≡ indent_with found counts (text - at) (end - at) → least_with found (indents (counted counts (lines_of (drop at bs)))) ≡ n
    → least_with more (indents (counted true (lines_of (drop next bs)))) ≡ n
indent_more bs found more counts n at text end next w v e f g x is h =
    let line = line_from_blanks bs at text end e v f in
    ap (λ ls. least_with more (indents ls)) (counted_all (lines_of (drop next bs)))
    ∙ ap (λ o. least_with o (indents (lines_of (drop next bs)))) is ∙ line_step bs found counts (lines_of (drop next bs)) at text end w e line
    ∙ ap (λ i. least_with found (indents (counted counts (take (end - at) (drop at bs) ∷ lines_of (drop i bs))))) x
    ∙ ap (λ ls. least_with found (indents (counted counts ls))) (sym (line_before bs at end line g)) ∙ h
