-- The lines of what stands between the quotes of a block string.
use Rattle.std.proofs.Common.{◌≡◌, ℕ, zero, suc, ◌+◌, ◌≤◌, Bool, true, false, cond, if◌then◌else◌, eqb, ltb, ◌&&◌, ◌||◌, List, [], ◌∷◌, ◌++◌, map, length, drop, get_or, refl, sym, ap, ap₂, ◌∙◌, append_assoc, append-nil, length-append, arith}
use Rattle.std.proofs.lemmas.Bool.Decides.{nat_tests}
use Rattle.std.proofs.lemmas.List.{length-replicate}
use Rattle.std.specs.List.{AllByRecursion, list_all}
use Rattle.graphql_tokens.specs.tokens.Place.{is_line_end}
use Rattle.graphql_tokens.specs.tokens.BlockText.{onto_line, lines_of, is_blank, indent, least, common_indent, dedented, joined}
use Rattle.graphql_tokens.proofs.BlockIndents.{indents, indents_blank, indents_text}
use Rattle.graphql_tokens.proofs.BlockLines.{lines_some}
use Rattle.graphql_layout.specs.declared.line_ends.LineBreak.{LineBreak}
use Rattle.graphql_layout.specs.declared.line_ends.LineEnd.{LineEnd}
use Rattle.graphql_layout.specs.declared.line_ends.LineEnd.TheVariants.{Feed, ReturnAndFeed}
use Rattle.graphql_layout.specs.texts.Blocks.{blanks, line_break, break_if}
use Rattle.graphql_layout.specs.texts.LineEnds.{line_end}
use Rattle.graphql_layout.specs.texts.Shortened.{has}
use Rattle.graphql_layout.proofs.BlockBodies.{lined}

abbrev pub InLine : List ℕ → Type 0
InLine line = AllByRecursion (λ c. is_line_end c ≡ false) line

abbrev pub AreLines : List (List ℕ) → Type 0
AreLines lines = AllByRecursion InLine lines

-- ---- lines that are joined

onto : (c : ℕ) (cs : List ℕ) → is_line_end c ≡ false → lines_of (c ∷ cs) ≡ onto_line c (lines_of cs)
onto c cs h =
    let a : eqb c 10 ≡ false = grind (arith, nat_tests) in
    let b : eqb c 13 ≡ false = grind (arith, nat_tests) in
    rw (a, b) refl

line_then : (line rest : List ℕ) → InLine line → lines_of (line ++ (10 ∷ rest)) ≡ line ∷ lines_of rest
line_then [] rest h = refl
line_then (c ∷ line) rest h = onto c (line ++ (10 ∷ rest)) h.0 ∙ ap (onto_line c) (line_then line rest h.1)

pub line_alone : (line : List ℕ) → InLine line → lines_of line ≡ line ∷ []
line_alone [] h = refl
line_alone (c ∷ line) h = onto c line h.0 ∙ ap (onto_line c) (line_alone line h.1)

pub lines_joined : (line : List ℕ) (lines : List (List ℕ)) → AreLines (line ∷ lines) → lines_of (joined (line ∷ lines)) ≡ line ∷ lines
lines_joined line [] h = line_alone line h.0
lines_joined line (next ∷ lines) h = line_then line (joined (next ∷ lines)) h.0 ∙ ap (λ (l : List (List ℕ)). line ∷ l) (lines_joined next lines h.1)

-- ---- the lines of a text

pub or_false : (a b : Bool) → (a || b) ≡ false → (a ≡ false) × (b ≡ false)
or_false true b h = absurd (cc)
or_false false b h = (refl, h)

pub none_of : (w c : ℕ) (cs : List ℕ) → has w (c ∷ cs) ≡ false → (eqb c w ≡ false) × (has w cs ≡ false)
none_of w c cs h = or_false (eqb c w) (has w cs) h

inside : (c : ℕ) → eqb c 10 ≡ false → eqb c 13 ≡ false → is_line_end c ≡ false
inside c a b = rw (a, b) refl

onto_lines : (c : ℕ) (lines : List (List ℕ)) → is_line_end c ≡ false → AreLines lines → AreLines (onto_line c lines)
onto_lines c [] h k = ((h, tt), tt)
onto_lines c (line ∷ lines) h k = ((h, k.0), k.1)

pub are_lines : (t : List ℕ) → AreLines (lines_of t)
are_lines [] = (tt, tt)
are_lines (c ∷ cs) = by (eqb c 10) (eqb c 13) (eqb (get_or cs 0 0) 10) refl refl (are_lines cs)
  where
    by : (a b d : Bool) → eqb c 10 ≡ a → eqb c 13 ≡ b → AreLines (lines_of cs) → AreLines (cond a ([] ∷ lines_of cs) (cond b (cond d (lines_of cs) ([] ∷ lines_of cs)) (onto_line c (lines_of cs))))
    by true b d x y r = (tt, r)
    by false true true x y r = r
    by false true false x y r = (tt, r)
    by false false d x y r = onto_lines c (lines_of cs) (inside c x y) r

pub one_line : (cs : List ℕ) → has 10 cs ≡ false → has 13 cs ≡ false → lines_of cs ≡ cs ∷ []
one_line cs h k = line_alone cs (all cs h k)
  where
    all : (cs : List ℕ) → has 10 cs ≡ false → has 13 cs ≡ false → InLine cs
    all [] h k = tt
    all (c ∷ cs) h k = let a = none_of 10 c cs h in let b = none_of 13 c cs k in (inside c a.0 b.0, all cs a.1 b.1)

joined_onto : (c : ℕ) (lines : List (List ℕ)) → joined (onto_line c lines) ≡ c ∷ joined lines
joined_onto c [] = refl
joined_onto c (line ∷ []) = refl
joined_onto c (line ∷ next ∷ lines) = refl

joined_nil : (t : List ℕ) → joined ([] ∷ lines_of t) ≡ 10 ∷ joined (lines_of t)
joined_nil t = let s = lines_some t in ap (λ (l : List (List ℕ)). joined ([] ∷ l)) s.2 ∙ ap (λ (l : List (List ℕ)). 10 ∷ joined l) (sym s.2)

-- without a carriage return, they joined are the text
pub joined_lines : (t : List ℕ) → has 13 t ≡ false → joined (lines_of t) ≡ t
joined_lines [] h = refl
joined_lines (c ∷ cs) h = let n = none_of 13 c cs h in by (eqb c 10) (eqb c 13) refl n.0 (joined_lines cs n.1)
  where
    by : (a b : Bool) → eqb c 10 ≡ a → b ≡ false → joined (lines_of cs) ≡ cs
        → joined (cond a ([] ∷ lines_of cs) (cond b (cond (eqb (get_or cs 0 0) 10) (lines_of cs) ([] ∷ lines_of cs)) (onto_line c (lines_of cs)))) ≡ c ∷ cs
    by true b e f r = let is : 10 ≡ c = grind (arith, nat_tests) in joined_nil cs ∙ ap (λ (l : List ℕ). 10 ∷ l) r ∙ ap (λ (x : ℕ). x ∷ cs) is
    by false true e f r = absurd (cc)
    by false false e f r = joined_onto c (lines_of cs) ∙ ap (λ (l : List ℕ). c ∷ l) r

-- ---- an indent

abbrev pub indented : ℕ → List ℕ → List ℕ
indented n line = blanks n ++ line

pub lines_blanks : (n : ℕ) (t line : List ℕ) (lines : List (List ℕ)) → lines_of t ≡ line ∷ lines → lines_of (blanks n ++ t) ≡ indented n line ∷ lines
lines_blanks zero t line lines e = e
lines_blanks (suc n) t line lines e = ap (onto_line 32) (lines_blanks n t line lines e)

-- a line break before them
lines_break : (i : LineBreak) (t line : List ℕ) (lines : List (List ℕ)) → lines_of t ≡ line ∷ lines → lines_of (line_break i ++ t) ≡ [] ∷ indented i.indent line ∷ lines
lines_break i t line lines e = by i.line_end
  where
    by : (end : LineEnd) → lines_of ((line_end end ++ blanks i.indent) ++ t) ≡ [] ∷ indented i.indent line ∷ lines
    by Feed = ap (λ (l : List (List ℕ)). [] ∷ l) (lines_blanks i.indent t line lines e)
    by ReturnAndFeed = ap (λ (l : List (List ℕ)). [] ∷ l) (lines_blanks i.indent t line lines e)

-- ---- lines that are all indented

-- the indent of the closing quotes, if they are on a line of their own
abbrev pub closing : Bool → ℕ → List (List ℕ)
closing trails n = if trails then blanks n ∷ [] else []

abbrev pub spread : Bool → ℕ → List (List ℕ) → List (List ℕ)
spread trails n lines = map (indented n) lines ++ closing trails n

-- The lines of what stands between the quotes.
abbrev pub shown : Bool → Bool → ℕ → List (List ℕ) → List (List ℕ)
shown true trails n lines = [] ∷ spread trails n lines
shown false trails n [] = closing trails n
shown false trails n (line ∷ lines) = line ∷ spread trails n lines

-- the lines, each but the first indented
abbrev hung : ℕ → List (List ℕ) → List (List ℕ)
hung n [] = []
hung n (line ∷ lines) = line ∷ map (indented n) lines

break_lines : (trails : Bool) (i : LineBreak) → lines_of (break_if trails i) ≡ [] ∷ closing trails i.indent
break_lines true i = ap lines_of (sym (append-nil (line_break i))) ∙ lines_break i [] [] [] refl ∙ ap (λ (l : List ℕ). [] ∷ l ∷ []) (append-nil (blanks i.indent))
break_lines false i = refl

lines_below : (trails : Bool) (i : LineBreak) (cs : List ℕ) → has 13 cs ≡ false → lines_of (lined i cs ++ break_if trails i) ≡ hung i.indent (lines_of cs) ++ closing trails i.indent
lines_below trails i [] h = break_lines trails i
lines_below trails i (c ∷ cs) h = let e = none_of 13 c cs h in by (eqb c 10) refl e.0 (lines_below trails i cs e.1)
  where
    last : List (List ℕ)
    last = closing trails i.indent

    tail : List ℕ
    tail = break_if trails i

    by : (a : Bool) → eqb c 10 ≡ a → eqb c 13 ≡ false → lines_of (lined i cs ++ tail) ≡ hung i.indent (lines_of cs) ++ last
        → lines_of ((cond a (line_break i) (c ∷ []) ++ lined i cs) ++ tail) ≡ hung i.indent (cond a ([] ∷ lines_of cs) (cond (eqb c 13) (cond (eqb (get_or cs 0 0) 10) (lines_of cs) ([] ∷ lines_of cs)) (onto_line c (lines_of cs)))) ++ last
    by true e f r =
        let s = lines_some cs in
        ap lines_of (append_assoc (line_break i) (lined i cs) tail)
        ∙ lines_break i (lined i cs ++ tail) s.0 (map (indented i.indent) s.1 ++ last) (r ∙ ap (λ (l : List (List ℕ)). hung i.indent l ++ last) s.2)
        ∙ ap (λ (l : List (List ℕ)). hung i.indent ([] ∷ l) ++ last) (sym s.2)
    by false e f r =
        let s = lines_some cs in
        onto c (lined i cs ++ tail) (inside c e f) ∙ ap (onto_line c) (r ∙ ap (λ (l : List (List ℕ)). hung i.indent l ++ last) s.2)
        ∙ ap (λ (l : List (List ℕ)). hung i.indent (onto_line c l) ++ last) (sym s.2)
        ∙ ap (λ b. hung i.indent (cond b (cond (eqb (get_or cs 0 0) 10) (lines_of cs) ([] ∷ lines_of cs)) (onto_line c (lines_of cs))) ++ last) (sym f)

pub lines_shown : (leads trails : Bool) (i : LineBreak) (cs line : List ℕ) (lines : List (List ℕ)) → has 13 cs ≡ false → lines_of cs ≡ line ∷ lines
    → lines_of (break_if leads i ++ (lined i cs ++ break_if trails i)) ≡ shown leads trails i.indent (line ∷ lines)
lines_shown leads trails i cs line lines h e = by leads
  where
    below : lines_of (lined i cs ++ break_if trails i) ≡ line ∷ spread trails i.indent lines
    below = lines_below trails i cs h ∙ ap (λ (l : List (List ℕ)). hung i.indent l ++ closing trails i.indent) e

    by : (leads : Bool) → lines_of (break_if leads i ++ (lined i cs ++ break_if trails i)) ≡ shown leads trails i.indent (line ∷ lines)
    by true = lines_break i (lined i cs ++ break_if trails i) line (spread trails i.indent lines) below
    by false = below

pub blank_indented : (n : ℕ) (line : List ℕ) → is_blank (indented n line) ≡ is_blank line
blank_indented zero line = refl
blank_indented (suc n) line = blank_indented n line

pub blank_blanks : (n : ℕ) → is_blank (blanks n) ≡ true
blank_blanks zero = refl
blank_blanks (suc n) = blank_blanks n

indent_indented : (n : ℕ) (line : List ℕ) → indent (indented n line) ≡ n + indent line
indent_indented zero line = omega arith
indent_indented (suc n) line = let h = indent_indented n line in omega (arith, h)

indents_closing : (trails : Bool) (n : ℕ) → indents (closing trails n) ≡ []
indents_closing true n = indents_blank (blanks n) [] (blank_blanks n)
indents_closing false n = refl

indents_spread : (trails : Bool) (n : ℕ) (lines : List (List ℕ)) → indents (spread trails n lines) ≡ map (λ k. n + k) (indents lines)
indents_spread trails n [] = indents_closing trails n
indents_spread trails n (line ∷ lines) = by (is_blank line) refl (indents_spread trails n lines)
  where
    by : (b : Bool) → is_blank line ≡ b → indents (spread trails n lines) ≡ map (λ k. n + k) (indents lines) → indents (indented n line ∷ spread trails n lines) ≡ map (λ k. n + k) (indents (line ∷ lines))
    by true e h = indents_blank (indented n line) (spread trails n lines) (blank_indented n line ∙ e) ∙ h ∙ ap (map (λ k. n + k)) (sym (indents_blank line lines e))
    by false e h =
        indents_text (indented n line) (spread trails n lines) (blank_indented n line ∙ e)
        ∙ ap₂ (λ (k : ℕ) (l : List ℕ). k ∷ l) (indent_indented n line) h ∙ ap (map (λ k. n + k)) (sym (indents_text line lines e))

least_more : (n x : ℕ) (xs : List ℕ) → least (map (λ k. n + k) (x ∷ xs)) ≡ n + least (x ∷ xs)
least_more n x [] = refl
least_more n x (y ∷ ys) = let h = least_more n y ys in omega (arith, h)

pub some_indent : (lines : List (List ℕ)) → list_all is_blank lines ≡ false → indents lines ≡ [] → ⊥
some_indent [] h e = absurd (cc)
some_indent (line ∷ lines) h e = by (is_blank line) refl (some_indent lines)
  where
    by : (b : Bool) → is_blank line ≡ b → (list_all is_blank lines ≡ false → indents lines ≡ [] → ⊥) → ⊥
    by true k r = r (ap (λ b. b && list_all is_blank lines) (sym k) ∙ h) (sym (indents_blank line lines k) ∙ e)
    by false k r = let f : indent line ∷ indents lines ≡ [] = sym (indents_text line lines k) ∙ e in cc

-- one of the lines isn't blank
pub common_spread : (trails : Bool) (n : ℕ) (lines : List (List ℕ)) → list_all is_blank lines ≡ false → common_indent (spread trails n lines) ≡ n + common_indent lines
common_spread trails n lines h = by (indents lines) refl
  where
    by : (ns : List ℕ) → indents lines ≡ ns → common_indent (spread trails n lines) ≡ n + common_indent lines
    by [] e = absurd (some_indent lines h e)
    by (x ∷ xs) e = ap least (indents_spread trails n lines ∙ ap (map (λ k. n + k)) e) ∙ least_more n x xs ∙ ap (λ (l : List ℕ). n + least l) (sym e)

-- ---- and without it

drop_blanks : (n k : ℕ) (line : List ℕ) → drop (n + k) (blanks n ++ line) ≡ drop k line
drop_blanks zero k line = let z : 0 + k ≡ k = omega arith in ap (λ (m : ℕ). drop m line) z
drop_blanks (suc n) k line = let z : suc n + k ≡ suc (n + k) = omega arith in ap (λ (m : ℕ). drop m (blanks (suc n) ++ line)) z ∙ drop_blanks n k line

pub dedented_indented : (n k : ℕ) (line : List ℕ) → k ≤ length line → dedented (n + k) (indented n line) ≡ drop k line
dedented_indented n k line h =
    let long : n + k ≤ length (blanks n ++ line) = omega (arith, length-append (blanks n) line, length-replicate {A = ℕ} n 32) in
    let b : ltb (length (blanks n ++ line)) (n + k) ≡ false = grind (arith, nat_tests) in
    ap (λ (t : Bool). cond t (blanks n ++ line) (drop (n + k) (blanks n ++ line))) b ∙ drop_blanks n k line

dedented_blanks : (n : ℕ) → dedented (n + 0) (blanks n) ≡ []
dedented_blanks n = ap (dedented (n + 0)) (sym (append-nil (blanks n))) ∙ dedented_indented n 0 [] (omega arith)

-- an empty line for the closing quotes
abbrev pub closed : Bool → List (List ℕ)
closed trails = closing trails 0

dedented_closing : (trails : Bool) (n : ℕ) → map (dedented (n + 0)) (closing trails n) ≡ closed trails
dedented_closing true n = ap (λ (l : List ℕ). l ∷ []) (dedented_blanks n)
dedented_closing false n = refl

pub dedented_spread : (trails : Bool) (n : ℕ) (lines : List (List ℕ)) → map (dedented (n + 0)) (spread trails n lines) ≡ lines ++ closed trails
dedented_spread trails n [] = dedented_closing trails n
dedented_spread trails n (line ∷ lines) = ap₂ (λ (l : List ℕ) (ls : List (List ℕ)). l ∷ ls) (dedented_indented n 0 line (omega arith)) (dedented_spread trails n lines)
