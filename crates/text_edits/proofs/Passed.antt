-- Which line an offset is on.
use Rattle.std.proofs.Common.{◌≡◌, ℕ, suc, ◌+◌, ◌-◌, ◌≤◌, ◌<◌, List, ◌∷◌, take, drop, refl, sym, ap, ◌∙◌, subst, arith, add-one, zero-add}
use Rattle.std.proofs.lemmas.Bool.{lt-ltb, le-ltb}
use Rattle.std.proofs.lemmas.Str.{IsUtf8-drop}
use Rattle.std.specs.Str.{chars, IsUtf8}
use Rattle.text_edits.specs.declared.Encoding.TheVariants.{Utf8}
use Rattle.text_edits.specs.Lines.{lines}
use Rattle.text_edits.specs.Positions.{start_of, lines_passed}
use Rattle.text_edits.specs.Starts.{IsLastLine, IsNextLine}
use Rattle.text_edits.specs.Units.{width}
use Rattle.text_edits.proofs.FirstLines.{lines_some}
use Rattle.text_edits.proofs.Starts.{IsAt, start_more, next_width, at_start, at_next}

pub passed_stop : (l m : List ℕ) (ls : List (List ℕ)) (offset : ℕ) → offset < width Utf8 l → lines_passed (l ∷ (m ∷ ls)) offset ≡ 0
passed_stop l m ls offset less = rw (lt-ltb offset (width Utf8 l) less) refl

pub passed_step : (l m : List ℕ) (ls : List (List ℕ)) (offset : ℕ) → width Utf8 l ≤ offset → lines_passed (l ∷ (m ∷ ls)) offset ≡ suc (lines_passed (m ∷ ls) (offset - width Utf8 l))
passed_step l m ls offset more = rw (le-ltb offset (width Utf8 l) more) refl

-- ---- in a loop over the lines

-- so many lines are passed
pub record Passing (ls : List (List ℕ)) (i offset : ℕ) : Type 0 where
  pub low : start_of ls i ≤ offset
  pub same : lines_passed ls offset ≡ i + lines_passed (drop i ls) (offset - start_of ls i)

passing_next : (ls : List (List ℕ)) (i offset : ℕ) (l m : List ℕ) (rest : List (List ℕ)) → Passing ls i offset → drop i ls ≡ l ∷ (m ∷ rest) → width Utf8 l ≤ offset - start_of ls i → Passing ls (suc i) offset
passing_next ls i offset l m rest p e more =
    let next = start_more ls i l (m ∷ rest) e in
    let here : offset - start_of ls i - width Utf8 l ≡ offset - start_of ls (suc i) = omega (arith, next.0) in
    let low = p.low in
    let step : lines_passed (drop i ls) (offset - start_of ls i) ≡ suc (lines_passed (drop (suc i) ls) (offset - start_of ls (suc i))) =
    ap (λ (r : List (List ℕ)). lines_passed r (offset - start_of ls i)) e ∙ passed_step l m rest (offset - start_of ls i) more
    ∙ ap (λ n. suc (lines_passed (m ∷ rest) n)) here ∙ ap (λ (r : List (List ℕ)). suc (lines_passed r (offset - start_of ls (suc i)))) (sym next.1) in
    record {
      low = omega (arith, next.0, p.low);
      same = omega (arith, p.same, step);
    }

-- the walk over a text is at the beginning of this line
pub record Walked (text : List ℕ) (start line offset : ℕ) : Type 0 where
  pub at : IsAt text start line
  pub passing : Passing (lines (chars text)) line offset
  pub few : line ≤ start

pub walked_start : (text : List ℕ) (offset : ℕ) → IsUtf8 text → Walked text 0 0 offset
walked_start text offset u =
    let same : offset ≡ offset - start_of (lines (chars text)) 0 = omega arith in
    record {
      at = at_start text u;
      passing = record { low = omega arith; same = ap (lines_passed (lines (chars text))) same ∙ sym (zero-add (lines_passed (lines (chars text)) (offset - start_of (lines (chars text)) 0))) };
      few = omega arith;
    }

pub walked_low : (text : List ℕ) (start line offset : ℕ) → Walked text start line offset → start ≤ offset
walked_low text start line offset w = omega (arith, w.passing.low, w.at.begins)

pub walked_next : (text : List ℕ) (start line offset n : ℕ) → IsUtf8 text → Walked text start line offset → IsNextLine (drop start text) n → n ≤ offset - start → Walked text (start + n) (line + 1) offset
walked_next text start line offset n u w next more =
    let ls : List (List ℕ) = lines (chars text) in
    let some = lines_some (chars (drop n (drop start text))) in
    let here : drop line ls ≡ chars (take n (drop start text)) ∷ (some.first ∷ some.more) = w.at.rest ∙ next.lines ∙ ap (λ (r : List (List ℕ)). chars (take n (drop start text)) ∷ r) some.is in
    let wide = next_width (drop start text) n (IsUtf8-drop text start u w.at.boundary) next in
    let begins = w.at.begins in
    let passing : Passing ls (suc line) offset = passing_next ls line offset (chars (take n (drop start text))) some.first some.more w.passing here (omega (arith, wide, begins)) in
    record {
      at = at_next text start line n u w.at next;
      passing = subst (λ k. Passing ls k offset) (sym (add-one line)) passing;
      few = omega (arith, w.few, next.some);
    }

pub walked_last : (text : List ℕ) (start line offset : ℕ) → Walked text start line offset → IsLastLine (drop start text) → line ≡ lines_passed (lines (chars text)) offset
walked_last text start line offset w last =
    let ls : List (List ℕ) = lines (chars text) in
    let none : lines_passed (drop line ls) (offset - start_of ls line) ≡ 0 = ap (λ (r : List (List ℕ)). lines_passed r (offset - start_of ls line)) (w.at.rest ∙ last) in
    omega (arith, w.passing.same, none)

pub walked_here : (text : List ℕ) (start line offset n : ℕ) → IsUtf8 text → Walked text start line offset → IsNextLine (drop start text) n → offset - start < n → line ≡ lines_passed (lines (chars text)) offset
walked_here text start line offset n u w next less =
    let ls : List (List ℕ) = lines (chars text) in
    let some = lines_some (chars (drop n (drop start text))) in
    let here : drop line ls ≡ chars (take n (drop start text)) ∷ (some.first ∷ some.more) = w.at.rest ∙ next.lines ∙ ap (λ (r : List (List ℕ)). chars (take n (drop start text)) ∷ r) some.is in
    let wide = next_width (drop start text) n (IsUtf8-drop text start u w.at.boundary) next in
    let begins = w.at.begins in
    let none : lines_passed (drop line ls) (offset - start_of ls line) ≡ 0 =
    ap (λ (r : List (List ℕ)). lines_passed r (offset - start_of ls line)) here ∙ passed_stop (chars (take n (drop start text))) some.first some.more (offset - start_of ls line) (omega (arith, wide, begins)) in
    omega (arith, w.passing.same, none)
