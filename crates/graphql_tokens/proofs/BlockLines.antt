-- The lines of a text, from one offset to the next.
use Rattle.std.proofs.Common.{◌≡◌, ◌≢◌, ℕ, zero, suc, ◌+◌, ◌-◌, ◌≤◌, ◌<◌, Bool, true, false, cond, eqb, ◌&&◌, ◌⊎◌, List, [], ◌∷◌, length, take, drop, get_or, refl, sym, ap, ◌∙◌, subst, inl, inr, arith, length-drop, one-add}
use Rattle.std.proofs.Math.Seq.{drop-cons}
use Rattle.std.proofs.lemmas.Bool.{cases_lt}
use Rattle.std.proofs.lemmas.Bool.Decides.{nat_tests}
use Rattle.std.proofs.lemmas.List.{drop-drop, get_or-drop, take_all, drop_all, length-take-le}
use Rattle.std.proofs.lemmas.List.Sums.{prefix_len-le-length, prefix_len_stops, prefix_len_passes}
use Rattle.std.proofs.lemmas.Str.{IsCharBoundary-after_ascii, IsCharBoundary-before_ascii, IsCharBoundary-end}
use Rattle.std.specs.List.{prefix_len}
use Rattle.std.specs.Str.{IsUtf8, IsCharBoundary}
use Rattle.graphql_tokens.specs.tokens.Place.{is_in_line}
use Rattle.graphql_tokens.specs.tokens.BlockText.{lines_of, onto_line, is_blank_char, is_blank, indent, from_text}
use Rattle.graphql_tokens.specs.inner.Blocks.{end_len, first_line}
use Rattle.graphql_tokens.proofs.Scan.{get_or-drop_0}
use Rattle.graphql_tokens.proofs.EscapeUnits.{inside}

-- ---- the first line

line_end_cases : (c : ℕ) → is_in_line c ≡ false → (c ≡ 10) ⊎ (c ≡ 13)
line_end_cases c h = by (eqb c 10) refl
  where
    by : (b : Bool) → eqb c 10 ≡ b → (c ≡ 10) ⊎ (c ≡ 13)
    by true e = inl (grind (arith, nat_tests))
    by false e = inr (grind (arith, nat_tests))

in_line_tests : (c : ℕ) → is_in_line c ≡ true → (eqb c 10 ≡ false) × (eqb c 13 ≡ false)
in_line_tests c h = (grind (arith, nat_tests), grind (arith, nat_tests))

pub line_onto : (c : ℕ) (cs : List ℕ) → is_in_line c ≡ true → lines_of (c ∷ cs) ≡ onto_line c (lines_of cs)
line_onto c cs h =
    let t = in_line_tests c h in
    ap (λ b. cond b ([] ∷ lines_of cs) (cond (eqb c 13) (cond (eqb (get_or cs 0 0) 10) (lines_of cs) ([] ∷ lines_of cs)) (onto_line c (lines_of cs)))) t.0
    ∙ ap (λ b. cond b (cond (eqb (get_or cs 0 0) 10) (lines_of cs) ([] ∷ lines_of cs)) (onto_line c (lines_of cs))) t.1

abbrev pub in_line_len : List ℕ → ℕ
in_line_len t = prefix_len is_in_line t

pub line_last : (t : List ℕ) → in_line_len t ≡ length t → lines_of t ≡ t ∷ []
line_last [] h = refl
line_last (c ∷ cs) h = by (is_in_line c) refl h (line_last cs)
  where
    by : (b : Bool) → is_in_line c ≡ b → cond b (1 + in_line_len cs) 0 ≡ length (c ∷ cs) → (in_line_len cs ≡ length cs → lines_of cs ≡ cs ∷ []) → lines_of (c ∷ cs) ≡ (c ∷ cs) ∷ []
    by true e l r = line_onto c cs e ∙ ap (onto_line c) (r (omega arith))
    by false e l r = absurd (omega arith)

-- the rest after a return, where the text goes on with a line feed and where it doesn't
return_lines : (cs : List ℕ) → lines_of (13 ∷ cs) ≡ [] ∷ lines_of (drop (end_len (13 ∷ cs)) (13 ∷ cs))
return_lines [] = refl
return_lines (c ∷ cs) = by (eqb c 10) refl
  where
    by : (b : Bool) → eqb c 10 ≡ b → cond b (lines_of (c ∷ cs)) ([] ∷ lines_of (c ∷ cs)) ≡ [] ∷ lines_of (drop (cond b 2 1) (13 ∷ c ∷ cs))
    by true e = let is : c ≡ 10 = grind (arith, nat_tests) in ap (λ x. lines_of (x ∷ cs)) is
    by false e = refl

end_lines : (c : ℕ) (cs : List ℕ) → is_in_line c ≡ false → lines_of (c ∷ cs) ≡ [] ∷ lines_of (drop (end_len (c ∷ cs)) (c ∷ cs))
end_lines c cs h = by (line_end_cases c h)
  where
    by : (c ≡ 10) ⊎ (c ≡ 13) → lines_of (c ∷ cs) ≡ [] ∷ lines_of (drop (end_len (c ∷ cs)) (c ∷ cs))
    by (inl e) = rw e refl
    by (inr e) = rw e (return_lines cs)

pub line_more : (t : List ℕ) → in_line_len t < length t → lines_of t ≡ take (in_line_len t) t ∷ lines_of (drop (end_len (drop (in_line_len t) t)) (drop (in_line_len t) t))
line_more [] h = absurd (omega arith)
line_more (c ∷ cs) h = by (is_in_line c) refl h (line_more cs)
  where
    by : (b : Bool) → is_in_line c ≡ b → cond b (1 + in_line_len cs) 0 < length (c ∷ cs)
        → (in_line_len cs < length cs → lines_of cs ≡ take (in_line_len cs) cs ∷ lines_of (drop (end_len (drop (in_line_len cs) cs)) (drop (in_line_len cs) cs)))
        → (let n = cond b (1 + in_line_len cs) 0 in lines_of (c ∷ cs) ≡ take n (c ∷ cs) ∷ lines_of (drop (end_len (drop n (c ∷ cs))) (drop n (c ∷ cs))))
    by true e l r = rw (one-add (in_line_len cs)) (line_onto c cs e ∙ ap (onto_line c) (r (omega arith)))
    by false e l r = end_lines c cs e

-- ---- by offsets

pub line_at_end : (bs : List ℕ) (at end : ℕ) → end ≡ at + prefix_len is_in_line (drop at bs) → end ≡ length bs → at ≤ length bs
    → lines_of (drop at bs) ≡ take (end - at) (drop at bs) ∷ []
line_at_end bs at end e l w =
    let full : in_line_len (drop at bs) ≡ length (drop at bs) = omega (arith, length-drop at bs) in
    line_last (drop at bs) full ∙ ap (λ x. x ∷ []) (sym (take_all (end - at) (drop at bs) (omega (arith, length-drop at bs))))

pub line_before : (bs : List ℕ) (at end : ℕ) → end ≡ at + prefix_len is_in_line (drop at bs) → end < length bs
    → lines_of (drop at bs) ≡ take (end - at) (drop at bs) ∷ lines_of (drop (end + end_len (drop end bs)) bs)
line_before bs at end e l =
    let n = in_line_len (drop at bs) in
    let k : end - at ≡ n = omega arith in
    let rest : drop n (drop at bs) ≡ drop end bs = drop-drop n at bs ∙ ap (λ i. drop i bs) (sym e) in
    line_more (drop at bs) (omega (arith, length-drop at bs))
    ∙ ap (λ i. take i (drop at bs) ∷ lines_of (drop (end_len (drop n (drop at bs))) (drop n (drop at bs)))) (sym k)
    ∙ ap (λ x. take (end - at) (drop at bs) ∷ lines_of (drop (end_len x) x)) rest
    ∙ ap (λ x. take (end - at) (drop at bs) ∷ lines_of x) (drop-drop (end_len (drop end bs)) end bs ∙ ap (λ i. drop i bs) (let a : end + end_len (drop end bs) ≡ end + end_len (drop end bs) = refl in a))

pub lines_some : (t : List ℕ) → (line : List ℕ) × (lines : List (List ℕ)) × (lines_of t ≡ line ∷ lines)
lines_some t = by (cases_lt (in_line_len t) (length t))
  where
    by : (in_line_len t < length t) ⊎ (length t ≤ in_line_len t) → (line : List ℕ) × (lines : List (List ℕ)) × (lines_of t ≡ line ∷ lines)
    by (inl l) = (_, _, line_more t l)
    by (inr g) = (_, _, line_last t (omega (arith, prefix_len-le-length is_in_line t)))

-- ---- blanks at the front of a line

blank_in_line : (c : ℕ) → is_blank_char c ≡ true → is_in_line c ≡ true
blank_in_line c h = grind (arith, nat_tests)

blanks_le : (t : List ℕ) → prefix_len is_blank_char t ≤ in_line_len t
blanks_le [] = omega arith
blanks_le (c ∷ cs) = by (is_blank_char c) refl (blanks_le cs)
  where
    by : (b : Bool) → is_blank_char c ≡ b → prefix_len is_blank_char cs ≤ in_line_len cs → cond b (1 + prefix_len is_blank_char cs) 0 ≤ cond (is_in_line c) (1 + in_line_len cs) 0
    by true e r = rw (blank_in_line c e) (omega arith)
    by false e r = omega arith

-- the front of the text up to a place after the blanks: how many blanks it begins with, and whether it is blank
indent_take : (t : List ℕ) (n : ℕ) → prefix_len is_blank_char t ≤ n → n ≤ length t → indent (take n t) ≡ prefix_len is_blank_char t
indent_take [] n h l = ap indent (take_all n [] (omega arith))
indent_take (c ∷ cs) zero h l = omega arith
indent_take (c ∷ cs) (suc n) h l = by (is_blank_char c) refl h (indent_take cs n)
  where
    by : (b : Bool) → is_blank_char c ≡ b → cond b (1 + prefix_len is_blank_char cs) 0 ≤ suc n → (prefix_len is_blank_char cs ≤ n → n ≤ length cs → indent (take n cs) ≡ prefix_len is_blank_char cs)
        → cond b (1 + prefix_len is_blank_char (take n cs)) 0 ≡ cond b (1 + prefix_len is_blank_char cs) 0
    by true e k r = ap (λ x. 1 + x) (r (omega arith) (omega arith))
    by false e k r = refl

pub blank_len : (line : List ℕ) → is_blank line ≡ true → indent line ≡ length line
blank_len [] h = refl
blank_len (c ∷ cs) h = by (is_blank_char c) h (blank_len cs)
  where
    by : (b : Bool) → (b && is_blank cs) ≡ true → (is_blank cs ≡ true → indent cs ≡ length cs) → cond b (1 + indent cs) 0 ≡ length (c ∷ cs)
    by true e r = omega (arith, r e)
    by false e r = absurd (cc)

pub len_blank : (line : List ℕ) → indent line ≡ length line → is_blank line ≡ true
len_blank [] h = refl
len_blank (c ∷ cs) h = by (is_blank_char c) h (len_blank cs)
  where
    by : (b : Bool) → cond b (1 + indent cs) 0 ≡ length (c ∷ cs) → (indent cs ≡ length cs → is_blank cs ≡ true) → (b && is_blank cs) ≡ true
    by true e r = r (omega arith)
    by false e r = absurd (omega arith)

pub not_blank : (line : List ℕ) → indent line ≢ length line → is_blank line ≡ false
not_blank line h = by (is_blank line) refl
  where
    by : (b : Bool) → is_blank line ≡ b → b ≡ false
    by true e = absurd (h (blank_len line e))
    by false e = refl

-- a line between two offsets
pub record Line (bs : List ℕ) (at end : ℕ) : Type 0 where
  pub forward : at ≤ end
  pub long : length (take (end - at) (drop at bs)) ≡ end - at
  pub indented : at + indent (take (end - at) (drop at bs)) ≡ at + prefix_len is_blank_char (drop at bs)
  pub blanks : at + prefix_len is_blank_char (drop at bs) ≤ end

pub line_between : (bs : List ℕ) (at end : ℕ) → end ≡ at + prefix_len is_in_line (drop at bs) → at ≤ length bs → Line bs at end
line_between bs at end e w =
    let t = drop at bs in
    let le = prefix_len-le-length is_in_line t in
    let b = blanks_le t in
    record {
      forward = omega arith;
      long = length-take-le (end - at) t (omega arith);
      indented = ap (λ x. at + x) (indent_take t (end - at) (omega arith) (omega arith));
      blanks = omega arith;
    }

-- from the blanks on, the line is the same
pub line_from_blanks : (bs : List ℕ) (at text end : ℕ) → text ≡ at + prefix_len is_blank_char (drop at bs) → text ≤ length bs → end ≡ text + prefix_len is_in_line (drop text bs)
    → end ≡ at + prefix_len is_in_line (drop at bs)
line_from_blanks bs at text end e w l =
    let same : drop (prefix_len is_blank_char (drop at bs)) (drop at bs) ≡ drop text bs = drop-drop (prefix_len is_blank_char (drop at bs)) at bs ∙ ap (λ i. drop i bs) (sym e) in
    let k = split (drop at bs) in
    omega (arith, k, ap (λ x. prefix_len is_in_line x) same)
  where
    split : (t : List ℕ) → in_line_len t ≡ prefix_len is_blank_char t + in_line_len (drop (prefix_len is_blank_char t) t)
    split [] = refl
    split (c ∷ cs) = by (is_blank_char c) refl (split cs)
      where
        by : (b : Bool) → is_blank_char c ≡ b → in_line_len cs ≡ prefix_len is_blank_char cs + in_line_len (drop (prefix_len is_blank_char cs) cs)
            → (let n = cond b (1 + prefix_len is_blank_char cs) 0 in in_line_len (c ∷ cs) ≡ n + in_line_len (drop n (c ∷ cs)))
        by true x r = rw (one-add (prefix_len is_blank_char cs)) (ap (λ b. cond b (1 + in_line_len cs) 0) (blank_in_line c x) ∙ omega arith)
        by false x r = omega arith

-- a text may be cut among the blanks at its front
pub blank_boundary : (bs : List ℕ) (at k : ℕ) → IsUtf8 bs → IsCharBoundary bs at → at ≤ k → k ≤ at + prefix_len is_blank_char (drop at bs) → IsCharBoundary bs k
blank_boundary bs at k u b l h = by (cases_lt at k)
  where
    low : (c : ℕ) → is_blank_char c ≡ true → c < 128
    low c e = grind (arith, nat_tests)

    by : (at < k) ⊎ (k ≤ at) → IsCharBoundary bs k
    by (inr g) = let same : at ≡ k = omega arith in subst (λ (i : ℕ). IsCharBoundary bs i) same b
    by (inl m) =
        let j = k - 1 - at in
        let i : at + j ≡ k - 1 = omega arith in
        let p = prefix_len_passes is_blank_char (drop at bs) j 0 (omega arith) in
        let blank : is_blank_char (get_or bs (k - 1) 0) ≡ true = ap is_blank_char (ap (λ x. get_or bs x 0) (sym i) ∙ sym (get_or-drop at bs j 0)) ∙ p in
        let within : k - 1 < length bs = omega (arith, prefix_len-le-length is_blank_char (drop at bs), length-drop at bs) in
        let same : k - 1 + 1 ≡ k = omega arith in
        subst (λ (x : ℕ). IsCharBoundary bs x) same (IsCharBoundary-after_ascii bs (k - 1) u within (low (get_or bs (k - 1) 0) blank))

-- ---- ends of lines

pub end_low : (c : ℕ) → is_in_line c ≡ false → c < 128
end_low c h = by (line_end_cases c h)
  where
    by : (c ≡ 10) ⊎ (c ≡ 13) → c < 128
    by (inl e) = omega arith
    by (inr e) = omega arith

line_stops : (bs : List ℕ) (at end : ℕ) → end ≡ at + prefix_len is_in_line (drop at bs) → end < length bs → is_in_line (get_or bs end 0) ≡ false
line_stops bs at end e l =
    let n = in_line_len (drop at bs) in
    ap (λ x. is_in_line (get_or bs x 0)) e ∙ ap is_in_line (sym (get_or-drop at bs n 0)) ∙ prefix_len_stops is_in_line (drop at bs) 0 (omega (arith, length-drop at bs))

pub line_boundary : (bs : List ℕ) (at end : ℕ) → end ≡ at + prefix_len is_in_line (drop at bs) → end ≤ length bs → IsCharBoundary bs end
line_boundary bs at end e w = by (cases_lt end (length bs))
  where
    by : (end < length bs) ⊎ (length bs ≤ end) → IsCharBoundary bs end
    by (inl l) = IsCharBoundary-before_ascii bs end l (end_low (get_or bs end 0) (line_stops bs at end e l))
    by (inr g) = let same : length bs ≡ end = omega arith in subst (λ (k : ℕ). IsCharBoundary bs k) same (IsCharBoundary-end bs)

pub end_boundary : (bs : List ℕ) (end : ℕ) → IsUtf8 bs → end < length bs → is_in_line (get_or bs end 0) ≡ false → IsCharBoundary bs (end + end_len (drop end bs))
end_boundary bs end u l h = by (eqb (get_or (drop end bs) 0 0) 13) (eqb (get_or (drop end bs) 1 0) 10) refl
  where
    by : (a b : Bool) → eqb (get_or (drop end bs) 1 0) 10 ≡ b → IsCharBoundary bs (end + cond a (cond b 2 1) 1)
    by true true e =
        let is : get_or bs (end + 1) 0 ≡ 10 = sym (get_or-drop end bs 1 0) ∙ (let x : get_or (drop end bs) 1 0 ≡ 10 = grind (arith, nat_tests) in x) in
        let same : end + 1 + 1 ≡ end + 2 = omega arith in
        subst (λ (k : ℕ). IsCharBoundary bs k) same (IsCharBoundary-after_ascii bs (end + 1) u (inside bs (end + 1) (omega arith)) (omega arith))
    by true false e = IsCharBoundary-after_ascii bs end u l (end_low (get_or bs end 0) h)
    by false b e = IsCharBoundary-after_ascii bs end u l (end_low (get_or bs end 0) h)

-- ---- the first line, by its blanks

none_left : (bs : List ℕ) (text : ℕ) → (length bs ≤ text) ⊎ (is_in_line (get_or bs text 0) ≡ false) → text ≡ text + prefix_len is_in_line (drop text bs)
none_left bs text (inl g) = let e : prefix_len is_in_line (drop text bs) ≡ 0 = ap (λ x. prefix_len is_in_line x) (drop_all text bs g) in omega arith
none_left bs text (inr h) = by (drop text bs) refl
  where
    by : (t : List ℕ) → drop text bs ≡ t → text ≡ text + prefix_len is_in_line t
    by [] e = omega arith
    by (c ∷ cs) e =
        let first : get_or bs text 0 ≡ c = sym (get_or-drop_0 bs text) ∙ ap (λ x. get_or x 0 0) e in
        let stops : is_in_line c ≡ false = ap is_in_line (sym first) ∙ h in
        rw stops (omega arith)

-- the line from `at` on is blank up to its end at `text`
pub blank_line : (bs : List ℕ) (at text : ℕ) → text ≡ at + prefix_len is_blank_char (drop at bs) → at ≤ length bs → text ≤ length bs
    → (length bs ≤ text) ⊎ (is_in_line (get_or bs text 0) ≡ false)
    → (text ≡ at + prefix_len is_in_line (drop at bs)) × (is_blank (take (text - at) (drop at bs)) ≡ true)
blank_line bs at text e w v h =
    let end = line_from_blanks bs at text text e v (none_left bs text h) in
    let l = line_between bs at text end w in
    (end, len_blank (take (text - at) (drop at bs)) (omega (arith, l.indented, l.long, l.forward)))

pub first_is : (bs : List ℕ) (at end : ℕ) → end ≡ at + prefix_len is_in_line (drop at bs) → at ≤ length bs → first_line (lines_of (drop at bs)) ≡ take (end - at) (drop at bs)
first_is bs at end e w = by (cases_lt end (length bs))
  where
    by : (end < length bs) ⊎ (length bs ≤ end) → first_line (lines_of (drop at bs)) ≡ take (end - at) (drop at bs)
    by (inl l) = ap first_line (line_before bs at end e l)
    by (inr g) = ap first_line (line_at_end bs at end e (omega (arith, prefix_len-le-length is_in_line (drop at bs), length-drop at bs)) w)

text_more : (bs : List ℕ) (text : ℕ) → text < length bs → is_in_line (get_or bs text 0) ≡ true → 1 ≤ prefix_len is_in_line (drop text bs)
text_more bs text l h =
    let e : drop text bs ≡ get_or bs text 0 ∷ drop (suc text) bs = drop-cons bs text 0 l in
    rw e (rw h (omega arith))

-- the line from `at` on has a character at `text` that is neither blank nor its end
pub text_line : (bs : List ℕ) (at text : ℕ) → text ≡ at + prefix_len is_blank_char (drop at bs) → at ≤ length bs → text < length bs → is_in_line (get_or bs text 0) ≡ true
    → is_blank (first_line (lines_of (drop at bs))) ≡ false
text_line bs at text e w v h =
    let end : ℕ = text + prefix_len is_in_line (drop text bs) in
    let is = line_from_blanks bs at text end e (omega arith) refl in
    let l = line_between bs at end is w in
    let more = text_more bs text v h in
    let line = take (end - at) (drop at bs) in
    let some : indent line ≢ length line = omega (arith, l.indented, l.long, l.forward) in
    ap is_blank (first_is bs at end is w) ∙ not_blank line some

-- ---- from the first line that isn't blank

pub from_text_blank : (line : List ℕ) (lines : List (List ℕ)) → is_blank line ≡ true → from_text (line ∷ lines) ≡ from_text lines
from_text_blank line lines h = ap (λ b. cond b (from_text lines) (line ∷ lines)) h

pub from_text_here : (lines : List (List ℕ)) → is_blank (first_line lines) ≡ false → from_text lines ≡ lines
from_text_here [] h = refl
from_text_here (line ∷ lines) h = ap (λ b. cond b (from_text lines) (line ∷ lines)) h

-- the line at `at` is blank, and the first line is, unless it is the same
pub before_next : (bs : List ℕ) (at end : ℕ) → end ≡ at + prefix_len is_in_line (drop at bs) → at ≤ length bs → is_blank (take (end - at) (drop at bs)) ≡ true
    → (at ≢ 0 → is_blank (first_line (lines_of bs)) ≡ true) → is_blank (first_line (lines_of bs)) ≡ true
before_next bs zero end e w b h = ap is_blank (first_is bs 0 end e w) ∙ b
before_next bs (suc at) end e w b h = h (omega arith)

pub line_end_of : (bs : List ℕ) (at end : ℕ) → end ≡ at + prefix_len is_in_line (drop at bs) → end < length bs → is_in_line (get_or bs end 0) ≡ false
line_end_of bs at end e l = line_stops bs at end e l
