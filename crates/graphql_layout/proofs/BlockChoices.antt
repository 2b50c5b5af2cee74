-- The values that keep their lines in a block string are those for which the passes over their characters say so.
use Rattle.std.proofs.Common.{◌≡◌, ◌≢◌, ℕ, ◌+◌, Bool, true, false, cond, not, eqb, ◌&&◌, ◌||◌, inl, inr, List, [], ◌∷◌, get_or, refl, sym, ap, ap₂, ◌∙◌, arith}
use Rattle.std.proofs.lemmas.Bool.Decides.{nat_tests}
use Rattle.std.specs.List.{list_any}
use Rattle.graphql_tokens.specs.tokens.BlockText.{lines_of, onto_line, is_blank_char, is_blank, indent, least}
use Rattle.graphql_tokens.specs.inner.Blocks.{first_line}
use Rattle.graphql_tokens.proofs.BlockIndents.{indents, indents_blank, indents_text}
use Rattle.graphql_tokens.proofs.BlockLines.{lines_some}
use Rattle.graphql_tokens.proofs.EscapeUnits.{both}
use Rattle.graphql_layout.specs.texts.Blocks.{begins_in_text, text_after, ends_in_text, may_be_block}
use Rattle.graphql_layout.specs.texts.Shortened.{has, is_text, has_margin, is_hung}
use Rattle.graphql_layout.proofs.BlockBodies.{and_false}
use Rattle.graphql_layout.proofs.BlockLayouts.{none_of}
use Rattle.graphql_layout.proofs.BlockMeanings.{EndsInText, Kept, Flat, alone}

-- the lines of a text, one character on
lines_more : (c : ℕ) (cs : List ℕ) (d : Bool) → eqb c 10 ≡ d → eqb c 13 ≡ false → lines_of (c ∷ cs) ≡ cond d ([] ∷ lines_of cs) (onto_line c (lines_of cs))
lines_more c cs d e f =
    ap (λ b. cond b ([] ∷ lines_of cs) (cond (eqb c 13) (cond (eqb (get_or cs 0 0) 10) (lines_of cs) ([] ∷ lines_of cs)) (onto_line c (lines_of cs)))) e
    ∙ ap (λ b. cond d ([] ∷ lines_of cs) (cond b (cond (eqb (get_or cs 0 0) 10) (lines_of cs) ([] ∷ lines_of cs)) (onto_line c (lines_of cs)))) f

feed_not_blank : (c : ℕ) → eqb c 10 ≡ true → is_blank_char c ≡ false
feed_not_blank c e = grind (arith, nat_tests)

-- ---- the first line

begins_first : (cs : List ℕ) → has 13 cs ≡ false → begins_in_text cs ≡ not (is_blank (first_line (lines_of cs)))
begins_first [] h = refl
begins_first (c ∷ cs) h =
    let n = none_of 13 c cs h in
    let s = lines_some cs in
    by (eqb c 10) (is_blank_char c) refl refl n.0 s.0 s.1 s.2 (begins_first cs n.1)
  where
    by : (d b : Bool) → eqb c 10 ≡ d → is_blank_char c ≡ b → eqb c 13 ≡ false → (line : List ℕ) (lines : List (List ℕ)) → lines_of cs ≡ line ∷ lines
        → begins_in_text cs ≡ not (is_blank (first_line (lines_of cs))) → begins_in_text (c ∷ cs) ≡ not (is_blank (first_line (lines_of (c ∷ cs))))
    by true b e f g line lines s r =
        ap (λ x. cond x (begins_in_text cs) (not (eqb c 10))) (feed_not_blank c e) ∙ ap not e ∙ sym (ap (λ (l : List (List ℕ)). not (is_blank (first_line l))) (lines_more c cs true e g))
    by false b e f g line lines s r =
        let there : lines_of (c ∷ cs) ≡ (c ∷ line) ∷ lines = lines_more c cs false e g ∙ ap (onto_line c) s in
        ap₂ (λ x y. cond x (begins_in_text cs) (not y)) f e ∙ last b (r ∙ ap (λ (l : List (List ℕ)). not (is_blank (first_line l))) s)
        ∙ ap (λ x. not (x && is_blank line)) (sym f) ∙ sym (ap (λ (l : List (List ℕ)). not (is_blank (first_line l))) there)
      where
        last : (b : Bool) → begins_in_text cs ≡ not (is_blank line) → cond b (begins_in_text cs) (not false) ≡ not (b && is_blank line)
        last true r = r
        last false r = refl

-- ---- the last line

abbrev ends : Bool → List (List ℕ) → Bool
ends before [] = before
ends before (line ∷ []) = before || not (is_blank line)
ends before (line ∷ next ∷ lines) = ends false (next ∷ lines)

ends_last : (before : Bool) (cs : List ℕ) → has 13 cs ≡ false → ends_in_text before cs ≡ ends before (lines_of cs)
ends_last before [] h = or_nothing before
  where
    or_nothing : (b : Bool) → b ≡ (b || not true)
    or_nothing true = refl
    or_nothing false = refl
ends_last before (c ∷ cs) h =
    let n = none_of 13 c cs h in
    let s = lines_some cs in
    by (eqb c 10) refl n.0 s.0 s.1 s.2 (λ b. ends_last b cs n.1)
  where
    onto_ends : (x b : Bool) (line : List ℕ) (lines : List (List ℕ)) → is_blank_char c ≡ x → ends (b || not x) (line ∷ lines) ≡ ends b ((c ∷ line) ∷ lines)
    onto_ends x b line [] e = cases b x (is_blank line) ∙ ap (λ y. b || not (y && is_blank line)) (sym e)
      where
        cases : (b x y : Bool) → ((b || not x) || not y) ≡ (b || not (x && y))
        cases true x y = refl
        cases false true y = refl
        cases false false y = refl
    onto_ends x b line (next ∷ lines) e = refl

    by : (d : Bool) → eqb c 10 ≡ d → eqb c 13 ≡ false → (line : List ℕ) (lines : List (List ℕ)) → lines_of cs ≡ line ∷ lines
        → ((b : Bool) → ends_in_text b cs ≡ ends b (lines_of cs)) → ends_in_text (text_after before c) cs ≡ ends before (lines_of (c ∷ cs))
    by true e g line lines s r =
        ap (λ x. ends_in_text (not x && (before || not (is_blank_char c))) cs) e ∙ r false ∙ ap (ends false) s
        ∙ sym (ap (ends before) (lines_more c cs true e g ∙ ap (λ (l : List (List ℕ)). [] ∷ l) s))
    by false e g line lines s r =
        ap (λ x. ends_in_text (not x && (before || not (is_blank_char c))) cs) e ∙ r (before || not (is_blank_char c)) ∙ ap (ends (before || not (is_blank_char c))) s
        ∙ onto_ends (is_blank_char c) before line lines refl ∙ sym (ap (ends before) (lines_more c cs false e g ∙ ap (onto_line c) s))

not_true : (b : Bool) → not b ≡ true → b ≡ false
not_true true e = absurd (cc)
not_true false e = refl

ends_so : (line : List ℕ) (lines : List (List ℕ)) → ends false (line ∷ lines) ≡ true → EndsInText (line ∷ lines)
ends_so line [] e = not_true (is_blank line) e
ends_so line (next ∷ lines) e = ends_so next lines e

so_ends : (line : List ℕ) (lines : List (List ℕ)) → EndsInText (line ∷ lines) → ends false (line ∷ lines) ≡ true
so_ends line [] h = ap not h
so_ends line (next ∷ lines) h = so_ends next lines h

-- ---- the margin

abbrev at_margin : List ℕ → Bool
at_margin line = not (is_blank line) && eqb (indent line) 0

abbrev margins : Bool → List (List ℕ) → Bool
margins begins [] = false
margins begins (line ∷ lines) = (begins && at_margin line) || list_any at_margin lines

feed_no_text : (c : ℕ) → eqb c 10 ≡ true → is_text c ≡ false
feed_no_text c e = grind (arith, nat_tests)

text_margin : (c : ℕ) (line : List ℕ) → eqb c 10 ≡ false → is_text c ≡ at_margin (c ∷ line)
text_margin c line e = by (is_blank_char c) refl
  where
    by : (b : Bool) → is_blank_char c ≡ b → not (b || eqb c 10) ≡ (not (b && is_blank line) && eqb (cond b (1 + indent line) 0) 0)
    by true f = let n : eqb (1 + indent line) 0 ≡ false = grind (arith, nat_tests) in sym (ap (λ x. not (is_blank line) && x) n ∙ and_false (not (is_blank line)) false refl)
    by false f = ap not e

margin_lines : (begins : Bool) (cs : List ℕ) → has 13 cs ≡ false → has_margin begins cs ≡ margins begins (lines_of cs)
margin_lines begins [] h = sym (ap (λ x. x || false) (and_false begins false refl))
margin_lines begins (c ∷ cs) h =
    let n = none_of 13 c cs h in
    let s = lines_some cs in
    by (eqb c 10) refl n.0 s.0 s.1 s.2 (λ b. margin_lines b cs n.1)
  where
    by : (d : Bool) → eqb c 10 ≡ d → eqb c 13 ≡ false → (line : List ℕ) (lines : List (List ℕ)) → lines_of cs ≡ line ∷ lines
        → ((b : Bool) → has_margin b cs ≡ margins b (lines_of cs)) → ((begins && is_text c) || has_margin (eqb c 10) cs) ≡ margins begins (lines_of (c ∷ cs))
    by true e g line lines s r =
        ap₂ (λ x y. (begins && x) || has_margin y cs) (feed_no_text c e) e ∙ ap (λ x. (begins && false) || x) (r true ∙ ap (margins true) s)
        ∙ sym (ap (margins begins) (lines_more c cs true e g ∙ ap (λ (l : List (List ℕ)). [] ∷ l) s))
    by false e g line lines s r =
        ap₂ (λ x y. (begins && x) || has_margin y cs) (text_margin c line e) e ∙ ap (λ x. (begins && at_margin (c ∷ line)) || x) (r false ∙ ap (margins false) s)
        ∙ sym (ap (margins begins) (lines_more c cs false e g ∙ ap (onto_line c) s))

abbrev has_zero : List ℕ → Bool
has_zero ns = list_any (λ n. eqb n 0) ns

zero_margin : (lines : List (List ℕ)) → list_any at_margin lines ≡ has_zero (indents lines)
zero_margin [] = refl
zero_margin (line ∷ lines) = by (is_blank line) refl (zero_margin lines)
  where
    by : (b : Bool) → is_blank line ≡ b → list_any at_margin lines ≡ has_zero (indents lines) → ((not (is_blank line) && eqb (indent line) 0) || list_any at_margin lines) ≡ has_zero (indents (line ∷ lines))
    by true e r = ap (λ x. (not x && eqb (indent line) 0) || list_any at_margin lines) e ∙ r ∙ sym (ap has_zero (indents_blank line lines e))
    by false e r =
        ap (λ x. (not x && eqb (indent line) 0) || list_any at_margin lines) e ∙ ap (λ x. eqb (indent line) 0 || x) r ∙ sym (ap has_zero (indents_text line lines e))

zero_least : (ns : List ℕ) → has_zero ns ≡ true → least ns ≡ 0
zero_least [] h = refl
zero_least (n ∷ []) h = grind (arith, nat_tests)
zero_least (n ∷ m ∷ ns) h = by (eqb n 0) refl h (zero_least (m ∷ ns))
  where
    by : (b : Bool) → eqb n 0 ≡ b → (b || has_zero (m ∷ ns)) ≡ true → (has_zero (m ∷ ns) ≡ true → least (m ∷ ns) ≡ 0) → least (n ∷ m ∷ ns) ≡ 0
    by true e h r = let z : n ≡ 0 = grind (arith, nat_tests) in omega arith
    by false e h r = let z = r h in omega arith

least_zero : (n : ℕ) (ns : List ℕ) → least (n ∷ ns) ≡ 0 → has_zero (n ∷ ns) ≡ true
least_zero n [] h = ap (λ x. eqb x 0 || false) h
least_zero n (m ∷ ns) h = by (eqb n 0) refl (λ e. least_zero m ns e)
  where
    by : (b : Bool) → eqb n 0 ≡ b → (least (m ∷ ns) ≡ 0 → has_zero (m ∷ ns) ≡ true) → (b || has_zero (m ∷ ns)) ≡ true
    by true e r = refl
    by false e r = let z : n ≢ 0 = grind (arith, nat_tests) in r (omega arith)

-- ---- all of it

margin_so : (cs line : List ℕ) (lines : List (List ℕ)) → has 13 cs ≡ false → lines_of cs ≡ line ∷ lines → has_margin true cs ≡ has_zero (indents (line ∷ lines))
margin_so cs line lines h e = margin_lines true cs h ∙ ap (margins true) e ∙ zero_margin (line ∷ lines)

pub kept_if : (cs : List ℕ) → may_be_block cs ≡ true → Kept cs
kept_if cs h =
    let a = both (not (has 13 cs)) (begins_in_text cs && (ends_in_text false cs && (not (has 10 cs) || has_margin true cs))) h in
    let b = both (begins_in_text cs) (ends_in_text false cs && (not (has 10 cs) || has_margin true cs)) a.1 in
    let c = both (ends_in_text false cs) (not (has 10 cs) || has_margin true cs) b.1 in
    let clean = not_true (has 13 cs) a.0 in
    let s = lines_some cs in
    record {
      no_return = clean;
      line = s.0;
      lines = s.1;
      is = s.2;
      first = not_true (is_blank s.0) (ap (λ (l : List (List ℕ)). not (is_blank (first_line l))) (sym s.2) ∙ sym (begins_first cs clean) ∙ b.0);
      last = ends_so s.0 s.1 (ap (ends false) (sym s.2) ∙ sym (ends_last false cs clean) ∙ c.0);
      margin = λ many. zero_least (indents (s.0 ∷ s.1)) (sym (margin_so cs s.0 s.1 clean s.2) ∙ ap (λ x. not x || has_margin true cs) (sym many) ∙ c.1);
    }

pub if_kept : (cs : List ℕ) → Kept cs → may_be_block cs ≡ true
if_kept cs k =
    let begins : begins_in_text cs ≡ true = begins_first cs k.no_return ∙ ap (λ (l : List (List ℕ)). not (is_blank (first_line l))) k.is ∙ ap not k.first in
    let stops : ends_in_text false cs ≡ true = ends_last false cs k.no_return ∙ ap (ends false) k.is ∙ so_ends k.line k.lines k.last in
    let margin : (not (has 10 cs) || has_margin true cs) ≡ true = by (has 10 cs) refl in
    ap (λ x. not x && (begins_in_text cs && (ends_in_text false cs && (not (has 10 cs) || has_margin true cs)))) k.no_return
    ∙ ap (λ x. x && (ends_in_text false cs && (not (has 10 cs) || has_margin true cs))) begins
    ∙ ap (λ x. x && (not (has 10 cs) || has_margin true cs)) stops ∙ margin
  where
    by : (b : Bool) → has 10 cs ≡ b → (not b || has_margin true cs) ≡ true
    by false e = refl
    by true e =
        let first = indents_text k.line k.lines k.first in
        margin_so cs k.line k.lines k.no_return k.is ∙ ap has_zero first ∙ least_zero (indent k.line) (indents k.lines) (ap least (sym first) ∙ k.margin e)

-- a line after the first begins with a text
pub flat_hung : (cs : List ℕ) (k : Kept cs) → Flat (is_hung cs) k.line k.lines
flat_hung cs k = by (has 10 cs) (has_margin false cs) refl refl
  where
    by : (a m : Bool) → has 10 cs ≡ a → has_margin false cs ≡ m → Flat (a && not m) k.line k.lines
    by false m e f = inl (alone cs k e).1
    by true false e f = k.margin e
    by true true e f = inr (zero_least (indents k.lines) (sym (margin_lines false cs k.no_return ∙ ap (margins false) k.is ∙ zero_margin k.lines) ∙ f))
