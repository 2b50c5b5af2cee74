-- What a block string means that was written from a value: the value, if that keeps its lines there, and only then.
use Rattle.std.proofs.Common.{◌≡◌, ◌≢◌, ℕ, zero, suc, ◌+◌, ◌≤◌, Bool, true, false, cond, eqb, not, ◌&&◌, ◌||◌, ◌⊎◌, inl, inr, nat_lt, List, [], ◌∷◌, ◌++◌, map, length, drop, refl, sym, ap, ◌∙◌, subst, append-nil, length-drop, arith}
use Rattle.std.proofs.lemmas.Bool.Decides.{nat_tests}
use Rattle.std.proofs.lemmas.List.Sums.{prefix_len-le-length}
use Rattle.std.specs.List.{list_all}
use Rattle.graphql_tokens.specs.tokens.Place.{is_line_end}
use Rattle.graphql_tokens.specs.tokens.BlockText.{unquoted, lines_of, is_blank_char, is_blank, indent, least, common_indent, dedented, dedent, from_text, to_text, joined, block_value}
use Rattle.graphql_tokens.specs.inner.Quoted.{NoQuote}
use Rattle.graphql_tokens.proofs.BlockEnds.{to_text_more}
use Rattle.graphql_tokens.proofs.BlockIndents.{indents, indents_text}
use Rattle.graphql_tokens.proofs.BlockValue.{deep, same_all, from_text-all, to_text-all}
use Rattle.graphql_layout.specs.declared.line_ends.LineBreak.{LineBreak}
use Rattle.graphql_layout.specs.texts.Blocks.{begins_blank, is_wide, leads, trails, blanks, line_break, break_if, body, content}
use Rattle.graphql_layout.specs.texts.Shortened.{has}
use Rattle.graphql_layout.proofs.BlockBodies.{and_false, break_clear, lined, unquoted_break, body_unquoted}
use Rattle.graphql_layout.proofs.BlockLayouts.{InLine, AreLines, are_lines, one_line, lines_joined, joined_lines, indented, closed, spread, shown, lines_shown, blank_indented, blank_blanks, common_spread, dedented_indented, dedented_spread}

-- ---- without its backslashes

break_alone : (n : LineBreak) → unquoted (line_break n) ≡ line_break n
break_alone n = ap unquoted (sym (append-nil (line_break n))) ∙ unquoted_break n [] ∙ append-nil (line_break n)

then_break : (b : Bool) (n : LineBreak) (cs : List ℕ) → unquoted (body n 0 cs ++ break_if b n) ≡ lined n cs ++ break_if b n
then_break true n cs = body_unquoted n 0 cs (line_break n) (subst NoQuote (append-nil (line_break n)) (break_clear n [])) refl ∙ ap (λ (l : List ℕ). lined n cs ++ l) (break_alone n)
then_break false n cs = body_unquoted n 0 cs [] tt refl

content_unquoted : (a b : Bool) (n : LineBreak) (cs : List ℕ) → unquoted (content a b n cs) ≡ break_if a n ++ (lined n cs ++ break_if b n)
content_unquoted true b n cs = unquoted_break n (body n 0 cs ++ break_if b n) ∙ ap (λ (l : List ℕ). line_break n ++ l) (then_break b n cs)
content_unquoted false b n cs = then_break b n cs

-- ---- its lines

pub written_lines : (a b : Bool) (n : LineBreak) (cs line : List ℕ) (lines : List (List ℕ)) → has 13 cs ≡ false → lines_of cs ≡ line ∷ lines → lines_of (unquoted (content a b n cs)) ≡ shown a b n.indent (line ∷ lines)
written_lines a b n cs line lines h e = ap lines_of (content_unquoted a b n cs) ∙ lines_shown a b n cs line lines h e

-- ---- its value, if the value keeps its lines

-- the last line isn't blank
abbrev pub EndsInText : List (List ℕ) → Type 0
EndsInText [] = ⊥
EndsInText (line ∷ []) = is_blank line ≡ false
EndsInText (line ∷ next ∷ lines) = EndsInText (next ∷ lines)

pub ends_some : (lines : List (List ℕ)) → EndsInText lines → list_all is_blank lines ≡ false
ends_some [] h = absurd h
ends_some (line ∷ []) h = ap (λ (b : Bool). b && true) h
ends_some (line ∷ next ∷ lines) h = and_false (is_blank line) (list_all is_blank (next ∷ lines)) (ends_some (next ∷ lines) h)

not_all : (lines : List (List ℕ)) (last : List ℕ) → EndsInText lines → list_all is_blank (lines ++ last ∷ []) ≡ false
not_all [] last h = absurd h
not_all (line ∷ []) last h = ap (λ (b : Bool). b && list_all is_blank (last ∷ [])) h
not_all (line ∷ next ∷ lines) last h = and_false (is_blank line) (list_all is_blank ((next ∷ lines) ++ last ∷ [])) (not_all (next ∷ lines) last h)

to_last : (lines : List (List ℕ)) (last : List ℕ) → is_blank last ≡ true → EndsInText lines → to_text (lines ++ last ∷ []) ≡ lines
to_last [] last b h = absurd h
to_last (line ∷ []) last b h = to_text_more line (last ∷ []) (not_all (line ∷ []) last h) ∙ ap (λ (x : Bool). line ∷ cond (x && true) [] (last ∷ [])) b
to_last (line ∷ next ∷ lines) last b h =
    to_text_more line ((next ∷ lines) ++ last ∷ []) (not_all (line ∷ next ∷ lines) last h) ∙ ap (λ (l : List (List ℕ)). line ∷ l) (to_last (next ∷ lines) last b h)

to_itself : (lines : List (List ℕ)) → EndsInText lines → to_text lines ≡ lines
to_itself [] h = absurd h
to_itself (line ∷ []) h = to_text_more line [] (ends_some (line ∷ []) h)
to_itself (line ∷ next ∷ lines) h = to_text_more line (next ∷ lines) (ends_some (line ∷ next ∷ lines) h) ∙ ap (λ (l : List (List ℕ)). line ∷ l) (to_itself (next ∷ lines) h)

to_closed : (b : Bool) (lines : List (List ℕ)) → EndsInText lines → to_text (lines ++ closed b) ≡ lines
to_closed true lines h = to_last lines [] refl h
to_closed false lines h = ap to_text (append-nil lines) ∙ to_itself lines h

from_first : (line : List ℕ) (lines : List (List ℕ)) → is_blank line ≡ false → from_text (line ∷ lines) ≡ line ∷ lines
from_first line lines h = ap (λ (b : Bool). cond b (from_text lines) (line ∷ lines)) h

-- The lines lose nothing: on lines of their own, or where the first stands right after the opening quotes.
abbrev pub Flat : Bool → List ℕ → List (List ℕ) → Type 0
Flat true line lines = common_indent (line ∷ lines) ≡ 0
Flat false line lines = (lines ≡ []) ⊎ (common_indent lines ≡ 0)

-- lines that are all indented, up to the closing quotes
cut_back : (b : Bool) (n : ℕ) (lines : List (List ℕ)) → EndsInText lines → common_indent lines ≡ 0 → map (dedented (common_indent (spread b n lines))) (spread b n lines) ≡ lines ++ closed b
cut_back b n lines last e =
    let cut : common_indent (spread b n lines) ≡ n + 0 = common_spread b n lines (ends_some lines last) ∙ ap (λ (k : ℕ). n + k) e in
    ap (λ (k : ℕ). map (dedented k) (spread b n lines)) cut ∙ dedented_spread b n lines

kept_lines : (a b : Bool) (n : ℕ) (line : List ℕ) (lines : List (List ℕ)) → is_blank line ≡ false → EndsInText (line ∷ lines) → Flat a line lines
    → to_text (from_text (dedent (shown a b n (line ∷ lines)))) ≡ line ∷ lines
kept_lines true b n line lines h last e =
    ap (λ (l : List (List ℕ)). to_text (from_text ([] ∷ l))) (cut_back b n (line ∷ lines) last e)
    ∙ ap to_text (from_first line (lines ++ closed b) h) ∙ to_closed b (line ∷ lines) last
kept_lines false false n line [] h last e = ap to_text (from_first line [] h) ∙ to_itself (line ∷ []) last
kept_lines false true n line [] h last e =
    let others : List (List ℕ) = blanks n ∷ [] in
    let quotes : List ℕ = dedented (common_indent others) (blanks n) in
    let blank : is_blank quotes ≡ true = (same_all (common_indent others) others (deep others)).0 ∙ blank_blanks n in
    ap to_text (from_first line (quotes ∷ []) h) ∙ to_last (line ∷ []) quotes blank h
kept_lines false b n line (next ∷ lines) h last (inl e) = absurd (cc)
kept_lines false b n line (next ∷ lines) h last (inr e) =
    ap (λ (l : List (List ℕ)). to_text (from_text (line ∷ l))) (cut_back b n (next ∷ lines) last e)
    ∙ ap to_text (from_first line ((next ∷ lines) ++ closed b) h) ∙ to_closed b (line ∷ next ∷ lines) last

-- Neither the first line nor the last is blank, and of many lines one that isn't blank begins with no blank.
pub record Kept (cs : List ℕ) : Type 0 where
  pub no_return : has 13 cs ≡ false
  pub line : List ℕ
  pub lines : List (List ℕ)
  pub is : lines_of cs ≡ line ∷ lines
  pub first : is_blank line ≡ false
  pub last : EndsInText (line ∷ lines)
  pub margin : has 10 cs ≡ true → common_indent (line ∷ lines) ≡ 0

no_indent : (cs : List ℕ) → begins_blank cs ≡ false → indent cs ≡ 0
no_indent [] h = refl
no_indent (c ∷ cs) h = ap (λ b. cond b (1 + indent cs) 0) h

pub alone : (cs : List ℕ) (k : Kept cs) → has 10 cs ≡ false → (k.line ≡ cs) × (k.lines ≡ [])
alone cs k e = let same : k.line ∷ k.lines ≡ cs ∷ [] = sym k.is ∙ one_line cs e k.no_return in (cc, cc)

pub flat : (cs : List ℕ) (k : Kept cs) → Flat (leads cs) k.line k.lines
flat cs k = by (has 10 cs) (is_wide cs) (begins_blank cs) refl refl
  where
    by : (a m b : Bool) → has 10 cs ≡ a → begins_blank cs ≡ b → Flat (a || (m && not b)) k.line k.lines
    by true m b e f = k.margin e
    by false false b e f = inl (alone cs k e).1
    by false true true e f = inl (alone cs k e).1
    by false true false e f =
        let one = alone cs k e in
        ap (λ (l : List (List ℕ)). common_indent (k.line ∷ l)) one.1 ∙ ap least (indents_text k.line [] k.first) ∙ ap indent one.0 ∙ no_indent cs f

pub kept_means : (a b : Bool) (n : LineBreak) (cs : List ℕ) (k : Kept cs) → Flat a k.line k.lines → block_value (content a b n cs) ≡ cs
unfolding block_value
kept_means a b n cs k f =
    ap (λ (l : List (List ℕ)). joined (to_text (from_text (dedent l)))) (written_lines a b n cs k.line k.lines k.no_return k.is)
    ∙ ap joined (kept_lines a b n.indent k.line k.lines k.first k.last f ∙ sym k.is)
    ∙ joined_lines cs k.no_return

pub nothing_means : block_value [] ≡ []
unfolding block_value
nothing_means = refl

-- ---- and only then

inside_cut : (n : ℕ) (line : List ℕ) → InLine line → InLine (drop n line)
inside_cut zero line h = h
inside_cut (suc n) [] h = h
inside_cut (suc n) (c ∷ cs) h = inside_cut n cs h.1

inside_dedented : (b : Bool) (n : ℕ) (line : List ℕ) → InLine line → InLine (cond b line (drop n line))
inside_dedented true n line h = h
inside_dedented false n line h = inside_cut n line h

all_dedented : (n : ℕ) (lines : List (List ℕ)) → AreLines lines → AreLines (map (dedented n) lines)
all_dedented n [] h = tt
all_dedented n (line ∷ lines) h = (inside_dedented (nat_lt (length line) n) n line h.0, all_dedented n lines h.1)

are_dedented : (lines : List (List ℕ)) → AreLines lines → AreLines (dedent lines)
are_dedented [] h = tt
are_dedented (line ∷ lines) h = (h.0, all_dedented (common_indent lines) lines h.1)

no_return_in : (c : ℕ) → is_line_end c ≡ false → eqb c 13 ≡ false
no_return_in c h = grind (arith, nat_tests)

none_inside : (line rest : List ℕ) → InLine line → has 13 (line ++ rest) ≡ has 13 rest
none_inside [] rest h = refl
none_inside (c ∷ cs) rest h = ap (λ b. b || has 13 (cs ++ rest)) (no_return_in c h.0) ∙ none_inside cs rest h.1

none_joined : (lines : List (List ℕ)) → AreLines lines → has 13 (joined lines) ≡ false
none_joined [] h = refl
none_joined (line ∷ []) h = ap (has 13) (sym (append-nil line)) ∙ none_inside line [] h.0
none_joined (line ∷ next ∷ lines) h = none_inside line (10 ∷ joined (next ∷ lines)) h.0 ∙ none_joined (next ∷ lines) h.1

-- what the first line that is left was before
first_left : (lines : List (List ℕ)) (line : List ℕ) (more : List (List ℕ)) → to_text lines ≡ line ∷ more → (rest : List (List ℕ)) × (lines ≡ line ∷ rest)
first_left [] line more e = absurd (cc)
first_left (x ∷ xs) line more e = by (list_all is_blank (x ∷ xs)) e
  where
    by : (b : Bool) → cond b [] (x ∷ to_text xs) ≡ line ∷ more → (rest : List (List ℕ)) × ((x ∷ xs) ≡ line ∷ rest)
    by true e = absurd (cc)
    by false e = let same : x ≡ line = cc in (xs, ap (λ (l : List ℕ). l ∷ xs) same)

first_text : (lines : List (List ℕ)) (line : List ℕ) (rest : List (List ℕ)) → from_text lines ≡ line ∷ rest → is_blank line ≡ false
first_text [] line rest e = absurd (cc)
first_text (x ∷ xs) line rest e = by (is_blank x) refl e (λ f. first_text xs line rest f)
  where
    by : (b : Bool) → is_blank x ≡ b → cond b (from_text xs) (x ∷ xs) ≡ line ∷ rest → (from_text xs ≡ line ∷ rest → is_blank line ≡ false) → is_blank line ≡ false
    by true h e r = r e
    by false h e r = let same : x ≡ line = cc in ap is_blank (sym same) ∙ h

none_left : (lines : List (List ℕ)) → to_text lines ≡ [] → list_all is_blank lines ≡ true
none_left [] e = refl
none_left (x ∷ xs) e = by (list_all is_blank (x ∷ xs)) refl e
  where
    by : (b : Bool) → list_all is_blank (x ∷ xs) ≡ b → cond b [] (x ∷ to_text xs) ≡ [] → list_all is_blank (x ∷ xs) ≡ true
    by true h e = h
    by false h e = absurd (cc)

last_text : (lines : List (List ℕ)) (line : List ℕ) (more : List (List ℕ)) → to_text lines ≡ line ∷ more → EndsInText (line ∷ more)
last_text [] line more e = absurd (cc)
last_text (x ∷ xs) line more e = by (list_all is_blank (x ∷ xs)) refl (to_text xs) refl e (λ y ys f. last_text xs y ys f)
  where
    by : (b : Bool) → list_all is_blank (x ∷ xs) ≡ b → (ys : List (List ℕ)) → to_text xs ≡ ys → cond b [] (x ∷ to_text xs) ≡ line ∷ more
        → ((y : List ℕ) (ys : List (List ℕ)) → to_text xs ≡ y ∷ ys → EndsInText (y ∷ ys)) → EndsInText (line ∷ more)
    by true h ys f e r = absurd (cc)
    by false h [] f e r =
        let all : list_all is_blank xs ≡ true = none_left xs f in
        let whole : (line ∷ more) ≡ x ∷ [] = sym e ∙ ap (λ (l : List (List ℕ)). x ∷ l) f in
        subst EndsInText (sym whole) (and_true (is_blank x) (list_all is_blank xs) all h)
      where
        and_true : (a b : Bool) → b ≡ true → (a && b) ≡ false → a ≡ false
        and_true true b g h = absurd (cc)
        and_true false b g h = refl
    by false h (y ∷ ys) f e r =
        let whole : (line ∷ more) ≡ x ∷ y ∷ ys = sym e ∙ ap (λ (l : List (List ℕ)). x ∷ l) f in
        subst EndsInText (sym whole) (r y ys f)

least_first : (n : ℕ) (ns : List ℕ) → least (n ∷ ns) ≤ n
least_first n [] = omega arith
least_first n (m ∷ ns) = omega arith

no_loss : (k : ℕ) (line : List ℕ) → k ≤ length line → drop k line ≡ line → k ≡ 0
no_loss k line h e = omega (arith, ap length e, length-drop k line)

-- what is left of a text, if that isn't empty
pub record Left (raw cs : List ℕ) : Type 0 where
  pub line : List ℕ
  pub lines : List (List ℕ)
  pub of : to_text (from_text (dedent (lines_of (unquoted raw)))) ≡ line ∷ lines
  pub is : lines_of cs ≡ line ∷ lines
  pub in_lines : AreLines (line ∷ lines)
  pub no_return : has 13 cs ≡ false
  pub first : is_blank line ≡ false
  pub last : EndsInText (line ∷ lines)

pub left_of : (raw cs : List ℕ) → cs ≢ [] → block_value raw ≡ cs → Left raw cs
unfolding block_value
left_of raw cs some e = by (to_text (from_text (dedent (lines_of (unquoted raw))))) refl
  where
    all : AreLines (to_text (from_text (dedent (lines_of (unquoted raw)))))
    all = let lines = dedent (lines_of (unquoted raw)) in
        to_text-all InLine (from_text lines) (from_text-all InLine lines (are_dedented (lines_of (unquoted raw)) (are_lines (unquoted raw))))

    by : (left : List (List ℕ)) → to_text (from_text (dedent (lines_of (unquoted raw)))) ≡ left → Left raw cs
    by [] f = absurd (some (sym e ∙ ap joined f))
    by (line ∷ lines) f =
        let lines_are : AreLines (line ∷ lines) = subst AreLines f all in
        let from = from_text (dedent (lines_of (unquoted raw))) in
        let head = first_left from line lines f in
        record {
          line = line;
          lines = lines;
          of = f;
          is = ap lines_of (sym e ∙ ap joined f) ∙ lines_joined line lines lines_are;
          in_lines = lines_are;
          no_return = ap (has 13) (sym e ∙ ap joined f) ∙ none_joined (line ∷ lines) lines_are;
          first = first_text (dedent (lines_of (unquoted raw))) line head.0 head.1;
          last = last_text from line lines f;
        }

-- the first line lost nothing, so there was no indent to lose
no_margin : (b : Bool) (n : ℕ) (line : List ℕ) (lines more : List (List ℕ)) → is_blank line ≡ false → to_text (from_text (dedent ([] ∷ spread b n (line ∷ lines)))) ≡ line ∷ more → common_indent (line ∷ lines) ≡ 0
no_margin b n line lines more h e =
    let k = common_indent (line ∷ lines) in
    let others : List (List ℕ) = spread b n (line ∷ lines) in
    let m = common_indent others in
    let within : k ≤ length line = omega (arith, ap least (indents_text line lines h), least_first (indent line) (indents lines), prefix_len-le-length is_blank_char line) in
    let blank : is_blank (dedented m (indented n line)) ≡ false = (same_all m others (deep others)).0 ∙ blank_indented n line ∙ h in
    let from = from_first (dedented m (indented n line)) (map (dedented m) (spread b n lines)) blank in
    let left = first_left (dedented m (indented n line) ∷ map (dedented m) (spread b n lines)) line more (ap to_text (sym from) ∙ e) in
    let same : dedented m (indented n line) ≡ line = first_of_two left.1 in
    let some : list_all is_blank (line ∷ lines) ≡ false = ap (λ (x : Bool). x && list_all is_blank lines) h in
    no_loss k line within (sym (dedented_indented n k line within) ∙ ap (λ (j : ℕ). dedented j (indented n line)) (sym (common_spread b n (line ∷ lines) some)) ∙ same)
  where
    first_of_two : {x y : List ℕ} {xs ys : List (List ℕ)} → x ∷ xs ≡ y ∷ ys → x ≡ y
    first_of_two e = cc

leads_then : (cs : List ℕ) → has 10 cs ≡ true → leads cs ≡ true
leads_then cs h = ap (λ b. b || (is_wide cs && not (begins_blank cs))) h

pub means_kept : (n : LineBreak) (cs : List ℕ) → cs ≢ [] → block_value (content (leads cs) (trails cs) n cs) ≡ cs → Kept cs
means_kept n cs some e =
    let l = left_of (content (leads cs) (trails cs) n cs) cs some e in
    record {
      no_return = l.no_return;
      line = l.line;
      lines = l.lines;
      is = l.is;
      first = l.first;
      last = l.last;
      margin = λ many.
          let shape : lines_of (unquoted (content (leads cs) (trails cs) n cs)) ≡ [] ∷ spread (trails cs) n.indent (l.line ∷ l.lines) =
          written_lines (leads cs) (trails cs) n cs l.line l.lines l.no_return l.is ∙ ap (λ (x : Bool). shown x (trails cs) n.indent (l.line ∷ l.lines)) (leads_then cs many) in
          no_margin (trails cs) n.indent l.line l.lines l.lines l.first (ap (λ (x : List (List ℕ)). to_text (from_text (dedent x))) (sym shape) ∙ l.of);
    }
