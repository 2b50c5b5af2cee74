-- The value of a block string whose text is one line without a backslash.
use Rattle.std.proofs.Common.{◌≡◌, ℕ, zero, suc, ◌+◌, ◌≤◌, ◌<◌, Bool, true, false, cond, not, ◌&&◌, eqb, ltb, min, List, [], ◌∷◌, length, drop, refl, sym, ap, ◌∙◌, arith}
use Rattle.std.proofs.lemmas.Bool.Decides.{nat_tests}
use Rattle.std.specs.List.{AllByRecursion, prefix_len}
use Rattle.graphql_tokens.specs.tokens.Place.{is_in_line}
use Rattle.graphql_tokens.specs.tokens.BlockText.{unquoted, lines_of, onto_line, is_blank_char, is_blank, indent, least, common_indent}
use Rattle.graphql_tokens.specs.inner.Blocks.{trimmed, IsOneLine}
use Rattle.graphql_tokens.proofs.BlockIndents.{indents_text}

-- a byte of a line, which is no backslash
abbrev pub is_unquoted : ℕ → Bool
is_unquoted b = is_in_line b && not (eqb b 92)

abbrev AreUnquoted : List ℕ → Type 0
AreUnquoted text = AllByRecursion (λ c. is_unquoted c ≡ true) text

-- a run that is as long as the text is all of it
all-of : (text : List ℕ) → length text ≤ prefix_len is_unquoted text → AreUnquoted text
all-of [] h = tt
all-of (c ∷ cs) h = by (is_unquoted c) refl h (all-of cs)
  where
    by : (b : Bool) → is_unquoted c ≡ b → suc (length cs) ≤ cond b (1 + prefix_len is_unquoted cs) 0 → (length cs ≤ prefix_len is_unquoted cs → AreUnquoted cs) → AreUnquoted (c ∷ cs)
    by true e h others = (e, others (omega arith))
    by false e h others = absurd (omega arith)

drop-unquoted : (n : ℕ) (text : List ℕ) → AreUnquoted text → AreUnquoted (drop n text)
drop-unquoted zero text h = h
drop-unquoted (suc n) [] h = h
drop-unquoted (suc n) (c ∷ cs) h = drop-unquoted n cs h.1

-- nothing is unquoted
same : (text : List ℕ) → AreUnquoted text → unquoted text ≡ text
same [] h = refl
same (c ∷ cs) h =
    let e : is_unquoted c ≡ true = h.0 in
    let none : eqb c 92 ≡ false = grind (arith, nat_tests) in
    rw none (ap (λ l. c ∷ l) (same cs h.1))

one : (text : List ℕ) → AreUnquoted text → lines_of text ≡ text ∷ []
one [] h = refl
one (c ∷ cs) h =
    let e : is_unquoted c ≡ true = h.0 in
    let feed : eqb c 10 ≡ false = grind (arith, nat_tests) in
    let return : eqb c 13 ≡ false = grind (arith, nat_tests) in
    rw (feed, return) (ap (onto_line c) (one cs h.1))

not-blank : (text : List ℕ) → prefix_len is_blank_char text < length text → is_blank text ≡ false
not-blank [] h = absurd (omega arith)
not-blank (c ∷ cs) h = by (is_blank_char c) h (not-blank cs)
  where
    by : (b : Bool) → cond b (1 + prefix_len is_blank_char cs) 0 < suc (length cs) → (prefix_len is_blank_char cs < length cs → is_blank cs ≡ false) → (b && is_blank cs) ≡ false
    by true h others = others (omega arith)
    by false h others = refl

trimmed-unquoted : (n : ℕ) (text : List ℕ) → AreUnquoted text → unquoted (trimmed n text) ≡ trimmed n text
trimmed-unquoted n text h = by (ltb (length text) n)
  where
    by : (b : Bool) → unquoted (cond b text (drop (min n (indent text)) text)) ≡ cond b text (drop (min n (indent text)) text)
    by true = same text h
    by false = same (drop (min n (indent text)) text) (drop-unquoted (min n (indent text)) text h)

pub one-line : (loses : Bool) (text line : List ℕ) (blanks n : ℕ) → length text ≤ prefix_len is_unquoted text → blanks ≡ prefix_len is_blank_char text → blanks < length text → n ≡ cond loses blanks 0 → line ≡ trimmed n text → IsOneLine loses text line
one-line loses text line blanks n all is some cut e =
    let h = all-of text all in
    let here = one text h in
    let blank : is_blank text ≡ false = not-blank text (omega arith) in
    let deep : common_indent (text ∷ []) ≡ blanks = ap least (indents_text text [] blank) ∙ sym is in
    by loses (e ∙ ap (λ k. trimmed k text) cut) h here deep
  where
    by : (b : Bool) → line ≡ trimmed (cond b blanks 0) text → AreUnquoted text → lines_of text ≡ text ∷ [] → common_indent (text ∷ []) ≡ blanks → IsOneLine b text line
    by true e h here deep = rw here (rw deep (e ∙ sym (trimmed-unquoted blanks text h)))
    by false e h here deep = rw here (e ∙ sym (trimmed-unquoted 0 text h))
