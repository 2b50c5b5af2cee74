-- The value of a block string keeps its lines in one.
use Rattle.std.proofs.Common.{◌≡◌, ◌≢◌, ℕ, zero, suc, ◌+◌, ◌-◌, ◌≤◌, Bool, true, false, cond, eqb, ltb, ◌||◌, ◌⊎◌, inl, inr, List, [], ◌∷◌, map, length, drop, refl, sym, ap, ap₂, ◌∙◌, arith}
use Rattle.std.proofs.lemmas.Bool.Decides.{nat_tests}
use Rattle.std.proofs.lemmas.List.Sums.{prefix_len-le-length}
use Rattle.std.specs.List.{list_all}
use Rattle.graphql_tokens.specs.tokens.Place.{is_line_end}
use Rattle.graphql_tokens.specs.tokens.BlockText.{unquoted, lines_of, is_blank_char, is_blank, indent, least, common_indent, dedented, dedent, from_text, to_text, joined, block_value}
use Rattle.graphql_tokens.proofs.BlockIndents.{indents, indents_blank, indents_text}
use Rattle.graphql_tokens.proofs.BlockValue.{AreDeep, deep, same_all}
use Rattle.graphql_tokens.proofs.EscapeUnits.{both}
use Rattle.graphql_layout.specs.texts.Shortened.{has}
use Rattle.graphql_layout.proofs.BlockLayouts.{InLine, joined_lines, some_indent}
use Rattle.graphql_layout.proofs.BlockMeanings.{EndsInText, ends_some, Kept, left_of}

-- ---- without their common indent they have none

drop_indent : (n : ℕ) (line : List ℕ) → n ≤ indent line → indent (drop n line) ≡ indent line - n
drop_indent zero line h = omega arith
drop_indent (suc n) [] h = absurd (omega arith)
drop_indent (suc n) (c ∷ cs) h = by (is_blank_char c) h (drop_indent n cs)
  where
    by : (b : Bool) → suc n ≤ cond b (1 + indent cs) 0 → (n ≤ indent cs → indent (drop n cs) ≡ indent cs - n) → indent (drop n cs) ≡ cond b (1 + indent cs) 0 - suc n
    by true l r = r (omega arith) ∙ omega arith
    by false l r = absurd (omega arith)

cut_indent : (n : ℕ) (line : List ℕ) → n ≤ indent line → indent (dedented n line) ≡ indent line - n
cut_indent n line h =
    let long : indent line ≤ length line = prefix_len-le-length is_blank_char line in
    let b : ltb (length line) n ≡ false = grind (arith, nat_tests) in
    ap (λ (t : Bool). indent (cond t line (drop n line))) b ∙ drop_indent n line h

cut_indents : (n : ℕ) (lines : List (List ℕ)) → AreDeep n lines → indents (map (dedented n) lines) ≡ map (λ k. k - n) (indents lines)
cut_indents n [] h = refl
cut_indents n (line ∷ lines) h = by (is_blank line) refl h.0 (same_all n (line ∷ lines) h).0 (cut_indents n lines h.1)
  where
    by : (b : Bool) → is_blank line ≡ b → (is_blank line ≡ true) ⊎ (n ≤ indent line) → is_blank (dedented n line) ≡ is_blank line → indents (map (dedented n) lines) ≡ map (λ k. k - n) (indents lines)
        → indents (dedented n line ∷ map (dedented n) lines) ≡ map (λ k. k - n) (indents (line ∷ lines))
    by true e d s r = indents_blank (dedented n line) (map (dedented n) lines) (s ∙ e) ∙ r ∙ ap (map (λ k. k - n)) (sym (indents_blank line lines e))
    by false e (inl d) s r = absurd (cc)
    by false e (inr d) s r =
        indents_text (dedented n line) (map (dedented n) lines) (s ∙ e)
        ∙ ap₂ (λ (k : ℕ) (l : List ℕ). k ∷ l) (cut_indent n line d) r ∙ ap (map (λ k. k - n)) (sym (indents_text line lines e))

least_less : (n : ℕ) (ns : List ℕ) → least (map (λ k. k - n) ns) ≡ least ns - n
least_less n [] = omega arith
least_less n (x ∷ []) = refl
least_less n (x ∷ y ∷ ns) = let h = least_less n (y ∷ ns) in omega (arith, h)

none_common : (lines : List (List ℕ)) → common_indent (map (dedented (common_indent lines)) lines) ≡ 0
none_common lines = ap least (cut_indents (common_indent lines) lines (deep lines)) ∙ least_less (common_indent lines) (indents lines) ∙ omega arith

-- ---- blank lines at the ends make no difference

from_indents : (lines : List (List ℕ)) → indents (from_text lines) ≡ indents lines
from_indents [] = refl
from_indents (line ∷ lines) = by (is_blank line) refl (from_indents lines)
  where
    by : (b : Bool) → is_blank line ≡ b → indents (from_text lines) ≡ indents lines → indents (cond b (from_text lines) (line ∷ lines)) ≡ indents (line ∷ lines)
    by true e r = r ∙ sym (indents_blank line lines e)
    by false e r = refl

all_indents : (lines : List (List ℕ)) → list_all is_blank lines ≡ true → indents lines ≡ []
all_indents [] h = refl
all_indents (line ∷ lines) h = let b = both (is_blank line) (list_all is_blank lines) h in indents_blank line lines b.0 ∙ all_indents lines b.1

to_indents : (lines : List (List ℕ)) → indents (to_text lines) ≡ indents lines
to_indents [] = refl
to_indents (line ∷ lines) = by (list_all is_blank (line ∷ lines)) (is_blank line) refl refl (to_indents lines)
  where
    by : (a b : Bool) → list_all is_blank (line ∷ lines) ≡ a → is_blank line ≡ b → indents (to_text lines) ≡ indents lines → indents (cond a [] (line ∷ to_text lines)) ≡ indents (line ∷ lines)
    by true b e f r = sym (all_indents (line ∷ lines) e)
    by false true e f r = indents_blank line (to_text lines) f ∙ r ∙ sym (indents_blank line lines f)
    by false false e f r = indents_text line (to_text lines) f ∙ ap (λ (l : List ℕ). indent line ∷ l) r ∙ sym (indents_text line lines f)

-- ---- of many lines that are left, one begins with a text

margin_left : (lines : List (List ℕ)) (line next : List ℕ) (more : List (List ℕ)) → to_text (from_text (dedent lines)) ≡ line ∷ next ∷ more → is_blank line ≡ false → EndsInText (line ∷ next ∷ more)
    → common_indent (line ∷ next ∷ more) ≡ 0
margin_left [] line next more e h last = absurd (cc)
margin_left (first ∷ others) line next more e h last = ap least same ∙ by (is_blank first) refl (indents cut) refl
  where
    cut : List (List ℕ)
    cut = map (dedented (common_indent others)) others

    same : indents (line ∷ next ∷ more) ≡ indents (first ∷ cut)
    same = ap indents (sym e) ∙ to_indents (from_text (first ∷ cut)) ∙ from_indents (first ∷ cut)

    by : (b : Bool) → is_blank first ≡ b → (ns : List ℕ) → indents cut ≡ ns → least (indents (first ∷ cut)) ≡ 0
    by true f ns g = ap least (indents_blank first cut f) ∙ none_common others
    by false f [] g =
        let two : indent line ∷ indents (next ∷ more) ≡ indent first ∷ [] = sym (indents_text line (next ∷ more) h) ∙ same ∙ indents_text first cut f ∙ ap (λ (l : List ℕ). indent first ∷ l) g in
        let none : indents (next ∷ more) ≡ [] = cc in
        absurd (some_indent (next ∷ more) (ends_some (next ∷ more) last) none)
    by false f (n ∷ ns) g =
        let zero_is : least (n ∷ ns) ≡ 0 = ap least (sym g) ∙ none_common others in
        ap least (indents_text first cut f ∙ ap (λ (l : List ℕ). indent first ∷ l) g) ∙ omega (arith, zero_is)

-- ---- the value

no_feed_in : (c : ℕ) → is_line_end c ≡ false → eqb c 10 ≡ false
no_feed_in c h = grind (arith, nat_tests)

no_feed : (line : List ℕ) → InLine line → has 10 line ≡ false
no_feed [] h = refl
no_feed (c ∷ cs) h = ap (λ b. b || has 10 cs) (no_feed_in c h.0) ∙ no_feed cs h.1

pub value_keeps : (raw cs : List ℕ) → cs ≢ [] → block_value raw ≡ cs → Kept cs
value_keeps raw cs some e =
    let l = left_of raw cs some e in
    record {
      no_return = l.no_return;
      line = l.line;
      lines = l.lines;
      is = l.is;
      first = l.first;
      last = l.last;
      margin = λ many. by l.line l.lines l.of l.is l.in_lines.0 l.no_return l.first l.last many;
    }
  where
    by : (line : List ℕ) (lines : List (List ℕ)) → to_text (from_text (dedent (lines_of (unquoted raw)))) ≡ line ∷ lines → lines_of cs ≡ line ∷ lines → InLine line → has 13 cs ≡ false
        → is_blank line ≡ false → EndsInText (line ∷ lines) → has 10 cs ≡ true → common_indent (line ∷ lines) ≡ 0
    by line [] of is inside clean first last many =
        let whole : cs ≡ line = sym (joined_lines cs clean) ∙ ap joined is in
        let none : has 10 cs ≡ false = ap (has 10) whole ∙ no_feed line inside in
        absurd (cc)
    by line (next ∷ lines) of is inside clean first last many = margin_left (lines_of (unquoted raw)) line next lines of first last
