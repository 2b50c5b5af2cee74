-- The lines that the code finds give the value of the block string.
use Rattle.std.proofs.Common.{◌≡◌, ◌≢◌, ℕ, suc, ◌≤◌, ◌<◌, Bool, true, false, cond, eqb, ltb, ◌&&◌, List, [], ◌∷◌, ◌++◌, map, length, take, drop, get_or, refl, sym, ap, ◌∙◌, subst, arith}
use Rattle.std.proofs.lemmas.Bool.Decides.{nat_tests}
use Rattle.std.proofs.lemmas.List.{take_all, drop_all, append-nil}
use Rattle.std.specs.List.{list_all}
use Rattle.graphql_tokens.specs.tokens.BlockText.{unquoted, lines_of, onto_line, is_blank, indent, least, common_indent, dedented, dedent, from_text, to_text, joined, block_value}
use Rattle.graphql_tokens.specs.inner.Blocks.{first_line, counted, cleaned, written, StartsText, EndsText, IsPlainBetween}
use Rattle.graphql_tokens.proofs.BlockQuotes.{unquoted_front}
use Rattle.graphql_tokens.proofs.BlockIndents.{indents, indents_blank, indents_text}
use Rattle.graphql_tokens.proofs.BlockLines.{lines_some, from_text_here, from_text_blank}
use Rattle.graphql_tokens.proofs.BlockEnds.{to_text_more}
use Rattle.graphql_tokens.proofs.EscapeUnits.{both}
use Rattle.graphql_tokens.proofs.BlockValue.{IsDeep, AreDeep, deep, SameBlank, from_text-map, to_text-map, to_text-all, from_text-all, same_all, cleaned_map, cleaned_zero, lines_of-unquoted, unquoted_blank, value_is}

-- ---- the indent is of the lines between the ends

indents_none : (lines : List (List ℕ)) → list_all is_blank lines ≡ true → indents lines ≡ []
indents_none [] h = refl
indents_none (line ∷ lines) h = let b = both (is_blank line) (list_all is_blank lines) h in indents_blank line lines b.0 ∙ indents_none lines b.1

indents_cons : (line : List ℕ) (some more : List (List ℕ)) → indents some ≡ indents more → indents (line ∷ some) ≡ indents (line ∷ more)
indents_cons line some more e = by (is_blank line) refl
  where
    by : (b : Bool) → is_blank line ≡ b → indents (line ∷ some) ≡ indents (line ∷ more)
    by true h = indents_blank line some h ∙ e ∙ sym (indents_blank line more h)
    by false h = indents_text line some h ∙ ap (λ ns. indent line ∷ ns) e ∙ sym (indents_text line more h)

indents-to_text : (lines : List (List ℕ)) → indents (to_text lines) ≡ indents lines
indents-to_text [] = refl
indents-to_text (line ∷ lines) = by (list_all is_blank (line ∷ lines)) refl (indents-to_text lines)
  where
    by : (b : Bool) → list_all is_blank (line ∷ lines) ≡ b → indents (to_text lines) ≡ indents lines → indents (cond b [] (line ∷ to_text lines)) ≡ indents (line ∷ lines)
    by true h r = sym (indents_none (line ∷ lines) h)
    by false h r = indents_cons line (to_text lines) lines r

indents-from_text : (lines : List (List ℕ)) → indents (from_text lines) ≡ indents lines
indents-from_text [] = refl
indents-from_text (line ∷ lines) = by (is_blank line) refl (indents-from_text lines)
  where
    by : (b : Bool) → is_blank line ≡ b → indents (from_text lines) ≡ indents lines → indents (cond b (from_text lines) (line ∷ lines)) ≡ indents (line ∷ lines)
    by true h r = r ∙ sym (indents_blank line lines h)
    by false h r = refl

-- ---- the value, by the first line

abbrev value_of : List (List ℕ) → List ℕ
value_of lines = joined (map unquoted (to_text (from_text (dedent lines))))

deep-to_text : (n : ℕ) (lines : List (List ℕ)) → AreDeep n lines → AreDeep n (to_text lines)
deep-to_text n lines h = to_text-all (IsDeep n) lines h

deep-from_text : (n : ℕ) (lines : List (List ℕ)) → AreDeep n lines → AreDeep n (from_text lines)
deep-from_text n lines h = from_text-all (IsDeep n) lines h

first_value : (first : List ℕ) (others : List (List ℕ)) → is_blank first ≡ false
    → value_of (first ∷ others) ≡ written 0 (common_indent (counted false (to_text (first ∷ others)))) (to_text (first ∷ others))
first_value first others h =
    let n = common_indent others in
    let g = dedented n in
    let d = deep others in
    let last = to_text others in
    let some : (xs : List (List ℕ)) → to_text (first ∷ xs) ≡ first ∷ to_text xs = λ xs. to_text_more first xs (ap (λ b. b && list_all is_blank xs) h) in
    let same : n ≡ common_indent last = ap least (sym (indents-to_text others)) in
    ap (λ x. joined (map unquoted (to_text x))) (from_text_here (first ∷ map g others) h)
    ∙ ap (λ x. joined (map unquoted x)) (some (map g others))
    ∙ ap (λ x. joined (unquoted first ∷ map unquoted x)) (to_text-map g others (same_all n others d))
    ∙ ap (λ x. joined (unquoted first ∷ x)) (sym (cleaned_map n last (deep-to_text n others d)))
    ∙ ap (λ x. joined (x ∷ map (cleaned n) last)) (sym (cleaned_zero first))
    ∙ ap (λ k. written 0 k (first ∷ last)) same
    ∙ ap (λ x. written 0 (common_indent (counted false x)) x) (sym (some others))

written_same : (n : ℕ) (lines : List (List ℕ)) → joined (map (cleaned n) lines) ≡ written n n lines
written_same n [] = refl
written_same n (line ∷ lines) = refl

other_value : (first : List ℕ) (others : List (List ℕ)) → is_blank first ≡ true
    → (let last = to_text (from_text (first ∷ others)) in value_of (first ∷ others) ≡ written (common_indent last) (common_indent last) last)
other_value first others h =
    let n = common_indent others in
    let g = dedented n in
    let d = deep others in
    let last = to_text (from_text others) in
    let same : n ≡ common_indent last = ap least (sym (indents-from_text others) ∙ sym (indents-to_text (from_text others))) in
    ap (λ x. joined (map unquoted (to_text x))) (from_text_blank first (map g others) h ∙ from_text-map g others (same_all n others d))
    ∙ ap (λ x. joined (map unquoted x)) (to_text-map g (from_text others) (same_all n (from_text others) (deep-from_text n others d)))
    ∙ ap joined (sym (cleaned_map n last (deep-to_text n (from_text others) (deep-from_text n others d))))
    ∙ written_same n last
    ∙ ap (λ k. written k k last) same
    ∙ ap (λ x. written (common_indent (to_text x)) (common_indent (to_text x)) (to_text x)) (sym (from_text_blank first others h))

counted_all : (lines : List (List ℕ)) → counted true lines ≡ lines
counted_all [] = refl
counted_all (line ∷ lines) = refl

-- nothing but blank lines
pub none_value : (t : List ℕ) → from_text (lines_of t) ≡ [] → block_value t ≡ []
none_value t h =
    let s = lines_some t in
    value_is t ∙ ap value_of s.2 ∙ by s.0 s.1 (is_blank s.0) refl (ap from_text (sym s.2) ∙ h)
  where
    by : (first : List ℕ) (others : List (List ℕ)) (b : Bool) → is_blank first ≡ b → from_text (first ∷ others) ≡ [] → value_of (first ∷ others) ≡ []
    by first others true e f =
        other_value first others e ∙ ap (λ x. written (common_indent (to_text x)) (common_indent (to_text x)) (to_text x)) f
    by first others false e f = let g : (first ∷ others) ≡ [] = sym (from_text_here (first ∷ others) e) ∙ f in absurd (cc)

-- ---- an empty value

none_mapped : (g : List ℕ → List ℕ) (lines : List (List ℕ)) → map g lines ≡ [] → lines ≡ []
none_mapped g [] h = refl
none_mapped g (line ∷ lines) h = absurd cc

text_joined : (line : List ℕ) (more : List (List ℕ)) → is_blank line ≡ false → joined (line ∷ more) ≡ [] → ⊥
text_joined [] more e h = cc
text_joined (c ∷ cs) [] e h = cc
text_joined (c ∷ cs) (next ∷ more) e h = cc

-- lines with a text in them are joined to some
none_joined : (lines : List (List ℕ)) → joined (to_text (from_text lines)) ≡ [] → from_text lines ≡ []
none_joined [] h = refl
none_joined (line ∷ lines) h = by (is_blank line) refl h (none_joined lines)
  where
    by : (b : Bool) → is_blank line ≡ b → joined (to_text (cond b (from_text lines) (line ∷ lines))) ≡ [] → (joined (to_text (from_text lines)) ≡ [] → from_text lines ≡ []) → cond b (from_text lines) (line ∷ lines) ≡ []
    by true e h r = r h
    by false e h r = absurd (text_joined line (to_text lines) e (ap joined (sym (to_text_more line lines (ap (λ b. b && list_all is_blank lines) e))) ∙ h))

none_dedented : (lines : List (List ℕ)) → from_text (dedent lines) ≡ [] → from_text lines ≡ []
none_dedented [] h = refl
none_dedented (first ∷ others) h = by (is_blank first) h
  where
    by : (b : Bool) → cond b (from_text (map (dedented (common_indent others)) others)) (first ∷ map (dedented (common_indent others)) others) ≡ [] → cond b (from_text others) (first ∷ others) ≡ []
    by true h = none_mapped (dedented (common_indent others)) (from_text others) (sym (from_text-map (dedented (common_indent others)) others (same_all (common_indent others) others (deep others))) ∙ h)
    by false h = absurd cc

same_unquoted : (lines : List (List ℕ)) → SameBlank unquoted lines
same_unquoted [] = tt
same_unquoted (line ∷ lines) = (unquoted_blank line, same_unquoted lines)

-- where the value is empty, each line is blank
none_lines : (t : List ℕ) → block_value t ≡ [] → from_text (lines_of t) ≡ []
unfolding block_value
none_lines t h =
    let unquoted_none : from_text (lines_of (unquoted t)) ≡ [] = none_dedented (lines_of (unquoted t)) (none_joined (dedent (lines_of (unquoted t))) h) in
    none_mapped unquoted (from_text (lines_of t)) (sym (from_text-map unquoted (lines_of t) (same_unquoted (lines_of t))) ∙ ap from_text (sym (lines_of-unquoted t)) ∙ unquoted_none)

-- so a text with a line that isn't blank has a value that isn't empty
pub some_value : (raw bytes : List ℕ) (at : ℕ) → bytes ≡ raw → StartsText bytes at → block_value raw ≢ []
some_value raw bytes at a s h =
    let some = lines_some (drop at bytes) in
    let none : some.0 ∷ some.1 ≡ [] = sym some.2 ∙ sym s.lines ∙ none_lines bytes (ap block_value a ∙ h) in
    absurd cc

-- ---- the value of the lines between the ends

pub text_value : (bs text : List ℕ) (at p n : ℕ) (later : Bool) → StartsText bs at → EndsText (drop at bs) p → text ≡ take p (drop at bs) → ltb 0 at ≡ later
    → n ≡ common_indent (counted later (lines_of text)) → block_value bs ≡ written (cond later n 0) n (lines_of text)
text_value bs text at p n later s e is l i =
    let some = lines_some bs in
    let lines : to_text (from_text (lines_of bs)) ≡ lines_of text = ap to_text s.lines ∙ e.lines ∙ ap lines_of (sym is) in
    value_is bs ∙ ap value_of some.2 ∙ by some.0 some.1 later some.2 l i (ap (λ x. to_text (from_text x)) (sym some.2) ∙ lines)
  where
    by : (first : List ℕ) (others : List (List ℕ)) (later : Bool) → lines_of bs ≡ first ∷ others → ltb 0 at ≡ later → n ≡ common_indent (counted later (lines_of text))
        → to_text (from_text (first ∷ others)) ≡ lines_of text → value_of (first ∷ others) ≡ written (cond later n 0) n (lines_of text)
    by first others true f l i w =
        let n_zero : at ≢ 0 = grind (arith, nat_tests) in
        let blank : is_blank first ≡ true = ap (λ x. is_blank (first_line x)) (sym f) ∙ s.before n_zero in
        let k : common_indent (lines_of text) ≡ n = sym (i ∙ ap common_indent (counted_all (lines_of text))) in
        other_value first others blank ∙ ap (λ x. written (common_indent x) (common_indent x) x) w ∙ ap (λ m. written m m (lines_of text)) k
    by first others false f l i w =
        let z : at ≡ 0 = grind (arith, nat_tests) in
        let here : is_blank first ≡ false = ap (λ x. is_blank (first_line x)) (sym f) ∙ ap (λ k. is_blank (first_line (lines_of (drop k bs)))) (sym z) ∙ s.here in
        let v : to_text (first ∷ others) ≡ lines_of text = ap to_text (sym (from_text_here (first ∷ others) here)) ∙ w in
        first_value first others here ∙ ap (λ x. written 0 (common_indent (counted false x)) x) v ∙ ap (λ m. written 0 m (lines_of text)) (sym i)

-- ---- text that stays as it is

joined_onto : (c : ℕ) (lines : List (List ℕ)) → joined (onto_line c lines) ≡ c ∷ joined lines
joined_onto c [] = refl
joined_onto c (line ∷ []) = refl
joined_onto c (line ∷ next ∷ lines) = refl

joined_nil : (t : List ℕ) → joined ([] ∷ lines_of t) ≡ 10 ∷ joined (lines_of t)
joined_nil t = let s = lines_some t in ap (λ x. joined ([] ∷ x)) s.2 ∙ ap (λ x. 10 ∷ joined x) (sym s.2)

joined-lines : (t : List ℕ) → ((k : ℕ) → k < length t → get_or t k 0 ≢ 13) → joined (lines_of t) ≡ t
joined-lines [] h = refl
joined-lines (c ∷ cs) h = by (eqb c 10) (eqb c 13) refl refl (joined-lines cs (λ k l. h (suc k) (omega arith)))
  where
    by : (a b : Bool) → eqb c 10 ≡ a → eqb c 13 ≡ b → joined (lines_of cs) ≡ cs
        → joined (cond a ([] ∷ lines_of cs) (cond b (cond (eqb (get_or cs 0 0) 10) (lines_of cs) ([] ∷ lines_of cs)) (onto_line c (lines_of cs)))) ≡ c ∷ cs
    by true b e f r = let is : 10 ≡ c = grind (arith, nat_tests) in joined_nil cs ∙ ap (λ x. 10 ∷ x) r ∙ ap (λ x. x ∷ cs) is
    by false true e f r = let is : c ≡ 13 = grind (arith, nat_tests) in absurd (h 0 (omega arith) is)
    by false false e f r = joined_onto c (lines_of cs) ∙ ap (λ x. c ∷ x) r

cleaned_all : (lines : List (List ℕ)) → written 0 0 lines ≡ joined (map unquoted lines)
cleaned_all lines = sym (written_same 0 lines) ∙ ap joined (by lines)
  where
    by : (lines : List (List ℕ)) → map (cleaned 0) lines ≡ map unquoted lines
    by [] = refl
    by (line ∷ lines) = ap (λ x. x ∷ map (cleaned 0) lines) (cleaned_zero line) ∙ ap (λ xs. unquoted line ∷ xs) (by lines)

pub plain_written : (t : List ℕ) → IsPlainBetween t 0 (length t) → written 0 0 (lines_of t) ≡ t
plain_written t p =
    let free : unquoted t ≡ t =
    unquoted_front (length t) t (λ k l. (p k (omega arith) l).1) ∙ ap (λ x. take (length t) t ++ unquoted x) (drop_all (length t) t (omega arith))
    ∙ append-nil (take (length t) t) ∙ take_all (length t) t (omega arith) in
    cleaned_all (lines_of t) ∙ ap joined (sym (lines_of-unquoted t)) ∙ ap (λ x. joined (lines_of x)) free ∙ joined-lines t (λ k l. (p k (omega arith) l).0)

-- ---- what the code finds

pub code_value : (raw bytes back bytes_of_back text bytes_of_text : List ℕ) (at p n : ℕ) → bytes ≡ raw → StartsText bytes at → back ≡ drop at raw → bytes_of_back ≡ back → EndsText bytes_of_back p
    → text ≡ take p back → bytes_of_text ≡ text → n ≡ common_indent (counted (ltb 0 at) (lines_of bytes_of_text)) → block_value raw ≡ written (cond (ltb 0 at) n 0) n (lines_of text)
code_value raw bytes back bytes_of_back text bytes_of_text at p n a s b d e f g i =
    text_value raw text at p n (ltb 0 at) (subst (λ (x : List ℕ). StartsText x at) a s) (subst (λ (x : List ℕ). EndsText x p) (d ∙ b) e)
    (f ∙ ap (take p) b) refl (i ∙ ap (λ x. common_indent (counted (ltb 0 at) (lines_of x))) g)

same_indent : (b : Bool) (n : ℕ) → n ≡ 0 → cond b n 0 ≡ 0
same_indent true n h = h
same_indent false n h = refl

pub plain_value : (raw text : List ℕ) (at n : ℕ) → n ≡ 0 → IsPlainBetween text 0 (length text) → block_value raw ≡ written (cond (ltb 0 at) n 0) n (lines_of text) → block_value raw ≡ text
plain_value raw text at n z p h =
    h ∙ ap (λ k. written k n (lines_of text)) (same_indent (ltb 0 at) n z) ∙ ap (λ k. written 0 k (lines_of text)) z ∙ plain_written text p

pub cut_later : (at n : ℕ) → 0 < at → n ≡ cond (ltb 0 at) n 0
cut_later at n h = let b : ltb 0 at ≡ true = grind (arith, nat_tests) in ap (λ x. cond x n 0) (sym b)

pub cut_first : (at n : ℕ) → at ≤ 0 → 0 ≡ cond (ltb 0 at) n 0
cut_first at n h = let b : ltb 0 at ≡ false = grind (arith, nat_tests) in ap (λ x. cond x n 0) (sym b)
