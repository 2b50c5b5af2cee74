-- Texts in which no line but the last is blank and has a blank, line by line.
use Rattle.std.proofs.Common.{◌≡◌, ℕ, ◌-◌, ◌<◌, Bool, true, false, cond, ◌&&◌, ◌||◌, List, [], ◌∷◌, ◌++◌, length, drop, get_or, refl, sym, ap, ap₂, ◌∙◌, append-nil, arith}
use Rattle.std.proofs.lemmas.Bool.Decides.{nat_tests}
use Rattle.std.proofs.lemmas.List.{nil_from_length}
use Rattle.std.proofs.lemmas.Str.{chars-nil, encode_ascii, encodes-chars}
use Rattle.std.specs.Str.{chars, IsUtf8, encode_utf8_all}
use Rattle.graphql_tokens.specs.tokens.BlockText.{is_blank_char, is_blank}
use Rattle.graphql_tokens.specs.tokens.Ignored.{EndsLine}
use Rattle.graphql_tokens.specs.tokens.Place.{is_line_end}
use Rattle.graphql_layout.specs.inner.FirstLine.{IsFirstLine}
use Rattle.graphql_layout.specs.inner.Scans.{has_blank_line}
use Rattle.graphql_layout.proofs.BlockLayouts.{InLine}
use Rattle.graphql_layout.proofs.Marks.{begun}
use Rattle.graphql_layout.proofs.Trimmed.{EndsBare, bare_end, not_blank}

and_true : (b : Bool) → (b && true) ≡ b
and_true true = refl
and_true false = refl

and_assoc : (a b c : Bool) → ((a && b) && c) ≡ (a && (b && c))
and_assoc true b c = refl
and_assoc false b c = refl

-- whether the line has a character, if it had one before or not
abbrev some_in : Bool → List ℕ → Bool
some_in some [] = some
some_in some (c ∷ cs) = true

line_passed : (blank some : Bool) (line rest : List ℕ) → InLine line → has_blank_line blank some (line ++ rest) ≡ has_blank_line (blank && is_blank line) (some_in some line) rest
line_passed blank some [] rest l = ap (λ (b : Bool). has_blank_line b some rest) (sym (and_true blank))
line_passed blank some (c ∷ cs) rest l =
    ap (λ (b : Bool). cond b ((blank && some) || has_blank_line true false (cs ++ rest)) (has_blank_line (blank && is_blank_char c) true (cs ++ rest))) l.0
    ∙ line_passed (blank && is_blank_char c) true cs rest l.1
    ∙ ap₂ (λ (b s : Bool). has_blank_line b s rest) (and_assoc blank (is_blank_char c) (is_blank cs)) (always cs)
  where
    always : (cs : List ℕ) → some_in true cs ≡ true
    always [] = refl
    always (d ∷ ds) = refl

-- a line that is empty or has a text
bare_line : (line : List ℕ) → EndsBare line → (is_blank line && some_in false line) ≡ false
bare_line [] h = refl
bare_line (c ∷ cs) h = ap (λ (b : Bool). b && true) (sym (ap (λ (l : List ℕ). is_blank (c ∷ l)) (append-nil cs)) ∙ not_blank c cs [] h)

text_line : (line : List ℕ) → is_blank line ≡ false → (is_blank line && some_in false line) ≡ false
text_line line h = ap (λ (b : Bool). b && some_in false line) h

-- the rest after the first line begins with a line's end
record BeginsWithEnd (text : List ℕ) : Type 0 where
  end : ℕ
  rest : List ℕ
  whole : text ≡ end ∷ rest
  low : end < 128
  is : is_line_end end ≡ true

begins_with_end_is : (text : List ℕ) → IsUtf8 text → 0 < length text → EndsLine (chars text) → BeginsWithEnd text
begins_with_end_is text u some ends = by (chars text) refl ends
  where
    by : (cs : List ℕ) → chars text ≡ cs → EndsLine cs → BeginsWithEnd text
    by [] e h = let none : text ≡ [] = sym (encodes-chars text u) ∙ ap encode_utf8_all e in absurd (omega (arith, ap length none))
    by (c ∷ cs) e h =
        let low : c < 128 = grind (arith, nat_tests) in
        record { end = c; rest = encode_utf8_all cs; whole = sym (encodes-chars text u) ∙ ap encode_utf8_all e ∙ ap (λ (l : List ℕ). l ++ encode_utf8_all cs) (encode_ascii c low); low = low; is = h }

pub end_low : (text : List ℕ) → IsUtf8 text → 0 < length text → EndsLine (chars text) → get_or text 0 0 < 128
end_low text u some ends = let b = begins_with_end_is text u some ends in rw b.whole b.low

-- the text is this line, the end of it, and others
passes_line : (text line rest others : List ℕ) → IsFirstLine text line rest → 0 < length rest → others ≡ drop 1 rest → (is_blank (chars line) && some_in false (chars line)) ≡ false
    → has_blank_line true false (chars others) ≡ false → has_blank_line true false (chars text) ≡ false
passes_line text line rest others l some next bare h =
    let b = begins_with_end_is rest l.rest_utf8 some l.ends in
    let is : others ≡ b.rest = next ∙ ap (λ (x : List ℕ). drop 1 x) b.whole in
    let after : chars rest ≡ b.end ∷ chars b.rest = (begun b.end rest b.rest b.low l.rest_utf8 b.whole).is in
    let blank = is_blank (chars line) in
    let has = some_in false (chars line) in
    ap (has_blank_line true false) l.whole ∙ line_passed true false (chars line) (chars rest) l.in_line ∙ ap (has_blank_line blank has) after
    ∙ ap (λ (x : Bool). cond x ((blank && has) || has_blank_line true false (chars b.rest)) (has_blank_line (blank && is_blank_char b.end) true (chars b.rest))) b.is
    ∙ ap₂ (λ (x y : Bool). x || y) bare (ap (λ (x : List ℕ). has_blank_line true false (chars x)) (sym is) ∙ h)

pub passes : (text line rest others : List ℕ) → IsFirstLine text line rest → 0 < length rest → others ≡ drop 1 rest → (is_blank_char (get_or line (length line - 1) 0) && is_blank (chars line)) ≡ false
    → has_blank_line true false (chars others) ≡ false → has_blank_line true false (chars text) ≡ false
passes text line rest others l some next none = passes_line text line rest others l some next (by (is_blank_char (get_or line (length line - 1) 0)) refl none)
  where
    by : (b : Bool) → is_blank_char (get_or line (length line - 1) 0) ≡ b → (b && is_blank (chars line)) ≡ false → (is_blank (chars line) && some_in false (chars line)) ≡ false
    by true e h = text_line (chars line) h
    by false e h = bare_line (chars line) (bare_end line l.utf8 e)

pub is_last_line : (text line rest : List ℕ) → IsFirstLine text line rest → length rest ≡ 0 → has_blank_line true false (chars text) ≡ false
is_last_line text line rest l none =
    ap (has_blank_line true false) l.whole ∙ line_passed true false (chars line) (chars rest) l.in_line
    ∙ ap (has_blank_line (is_blank (chars line)) (some_in false (chars line))) (ap chars (nil_from_length rest none) ∙ chars-nil)
