-- Where the caret stands at a refused token, and which place is told.
use Rattle.std.proofs.Common.{◌≡◌, ◌⊎◌, ℕ, ◌+◌, ◌-◌, ◌<◌, ◌^◌, Bool, true, false, List, [], ◌∷◌, ◌++◌, length, take, drop, refl, sym, ap, ◌∙◌, subst, inl, inr, arith}
use Rattle.std.specs.Prelude.{min, nat_lt}
use Rattle.std.proofs.lemmas.Bool.Decides.{nat_tests}
use Rattle.std.proofs.lemmas.List.{drop-drop}
use Rattle.std.proofs.lemmas.Str.{chars-nil, IsUtf8-drop, IsCharBoundary-from_rest}
use Rattle.std.specs.Str.{byte, chars, IsUtf8, IsCharBoundary, encode_utf8_all}
use Rattle.graphql_tokens.proofs.Chars.{chars_split}
use Rattle.graphql_tokens.specs.declared.lexer.TokenKind.TheVariants.{Fault}
use Rattle.graphql_tokens.specs.declared.pos.Pos.{Pos}
use Rattle.graphql_tokens.specs.tokens.Place.{place}
use Rattle.graphql_tokens.specs.tokens.Token.{Token}
use Rattle.graphql_report.specs.inner.Carets.{TellsEscape, HasNoBadEscape, IsWrongAfter}
use Rattle.graphql_report.specs.reports.Escapes.{HasBadEscape, IsBadEscapeOf}
use Rattle.graphql_report.specs.reports.Findings.{IsToldAt}
use Rattle.graphql_report.proofs.StringTexts.{at-escape}

-- ---- how many bytes after a fault that shows

none-in-nothing : HasBadEscape (chars []) → ⊥
none-in-nothing bad = let e = sym chars-nil ∙ bad.is in absurd cc

abbrev IsFirst : List ℕ → ℕ → Type 0
IsFirst rest passed = (bad : HasBadEscape (chars rest)) × (passed ≡ 1 + length (encode_utf8_all bad.content))

of-fault : (text : List ℕ) (token : Token) (passed : ℕ) → token.bare.kind ≡ Fault → IsFirst (drop token.start text) passed → IsBadEscapeOf text token (token.start + passed)
of-fault text token passed fault (bad, e) = (fault, (bad, omega (arith, e)))

-- the rest of the text from there on is what was looked at, unless it is nothing
pub wrong-after : (text rest : List ℕ) (token : Token) (passed : ℕ) → token.bare.kind ≡ Fault → TellsEscape (chars rest) passed → (IsCharBoundary text token.start → rest ≡ drop token.start text) → IsCharBoundary text token.start ⊎ (rest ≡ []) → IsWrongAfter text token passed
wrong-after text rest token passed fault (inl (none, good)) is cut = inl (none, λ boundary offset bad. good (subst (λ (l : List ℕ). HasBadEscape (chars l)) (sym (is boundary)) bad.1.0))
wrong-after text rest token passed fault (inr (bad, e)) is (inl boundary) = inr (boundary, of-fault text token passed fault (subst (λ (l : List ℕ). IsFirst l passed) (is boundary) (bad, e)))
wrong-after text rest token passed fault (inr (bad, e)) is (inr empty) = absurd (none-in-nothing (subst (λ (l : List ℕ). HasBadEscape (chars l)) empty bad))

-- ---- where the caret stands

-- a backslash stands at this offset of the text
abbrev IsAtBackslash : List ℕ → ℕ → Type 0
IsAtBackslash text offset = IsCharBoundary text offset × ((rest : List ℕ) × (chars (drop offset text) ≡ byte "\\" ∷ rest))

-- The caret stands inside the token just where that has a bad escape: at a backslash, with which the first of these begins.
abbrev IsCaretAt : (Token → Type 0) → List ℕ → ℕ → Bool → Type 0
IsCaretAt is_refused text offset false = (token : Token) → is_refused token → HasNoBadEscape text token
IsCaretAt is_refused text offset true = IsAtBackslash text offset × ((token : Token) → is_refused token → IsBadEscapeOf text token offset)

at-backslash : (text : List ℕ) (token : Token) (offset : ℕ) → IsUtf8 text → IsCharBoundary text token.start → IsBadEscapeOf text token offset → IsAtBackslash text offset
at-backslash text token offset utf8 boundary (fault, (bad, e)) =
    let passed : ℕ = 1 + length (encode_utf8_all bad.content) in
    let at = at-escape (drop token.start text) passed (IsUtf8-drop text token.start utf8 boundary) bad refl in
    let is : token.start + passed ≡ offset = omega (arith, e) in
    subst (IsAtBackslash text) is (IsCharBoundary-from_rest text token.start passed boundary.0 at.boundary, (bad.next ∷ bad.rest, ap chars (sym (drop-drop passed token.start text)) ∙ at.back))

-- the token that was looked at is the refused one
caret-at : (is_refused : Token → Type 0) (text : List ℕ) (known : Token) (passed offset : ℕ) → IsUtf8 text → length text < 2 ^ 63 → ((token : Token) → is_refused token → (known ≡ token) × IsCharBoundary text token.start) → IsWrongAfter text known passed → offset ≡ min (known.start + passed) (2 ^ 64 - 1) → IsCaretAt is_refused text offset (nat_lt 0 passed)
caret-at is_refused text known passed offset utf8 short is (inl (none, good)) at = subst (λ n. IsCaretAt is_refused text offset (nat_lt 0 n)) (sym none) outside
  where
    outside : (token : Token) → is_refused token → HasNoBadEscape text token
    outside token refused =
        let same = is token refused in
        subst (λ (t : Token). IsCharBoundary text t.start → HasNoBadEscape text t) same.0 good same.1
caret-at is_refused text known passed offset utf8 short is (inr (boundary, bad)) at =
    let there = at-backslash text known (known.start + passed) utf8 boundary bad in
    let few : offset ≡ known.start + passed = omega (arith, at, short, there.0.0) in
    let some : nat_lt 0 passed ≡ true = grind (arith, nat_tests, bad.1.1) in
    subst (IsCaretAt is_refused text offset) (sym some) (subst (IsAtBackslash text) (sym few) there, λ token refused. subst (λ (t : Token). IsBadEscapeOf text t offset) (is token refused).0 (subst (IsBadEscapeOf text known) (sym few) bad))

-- ---- which place is told

told-at : (is_refused : Token → Type 0) (text : List ℕ) (start told : Pos) (offset : ℕ) (inside : Bool) → IsUtf8 text → IsCaretAt is_refused text offset inside → (inside ≡ false → told ≡ start) → (inside ≡ true → IsCharBoundary text offset → told ≡ place text offset) → IsToldAt is_refused text start told
told-at is_refused text start told offset false utf8 caret outside there = inl (outside refl, caret)
told-at is_refused text start told offset true utf8 ((boundary, (rest, back)), caret) outside there =
    let at : told ≡ place text offset = there refl boundary in
    inr ((chars (take offset text), rest, chars_split text offset utf8 boundary ∙ ap (λ (l : List ℕ). chars (take offset text) ++ l) back, at), λ token refused. (offset, caret token refused, at))

-- it is the place of the caret of the token that was looked at, which is the refused one
pub told-there : (is_refused : Token → Type 0) (text : List ℕ) (start told : Pos) (known : Token) (passed offset : ℕ) → IsUtf8 text → length text < 2 ^ 63 → ((token : Token) → is_refused token → (known ≡ token) × IsCharBoundary text token.start) → IsWrongAfter text known passed → offset ≡ min (known.start + passed) (2 ^ 64 - 1)
    → (nat_lt 0 passed ≡ false → told ≡ start) → (nat_lt 0 passed ≡ true → IsCharBoundary text offset → told ≡ place text offset) → IsToldAt is_refused text start told
told-there is_refused text start told known passed offset utf8 short is wrong at outside there = told-at is_refused text start told offset (nat_lt 0 passed) utf8 (caret-at is_refused text known passed offset utf8 short is wrong at) outside there
