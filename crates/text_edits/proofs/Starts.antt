-- Where the lines of a text begin, in a loop over them.
use Rattle.std.proofs.Common.{◌≡◌, ℕ, zero, suc, ◌+◌, ◌≤◌, ◌<◌, List, [], ◌∷◌, length, take, drop, get_or, refl, sym, ap, ◌∙◌, arith, length-drop, length-take, add-one}
use Rattle.std.proofs.Math.Seq.{drop-length}
use Rattle.std.proofs.lemmas.List.{drop-drop}
use Rattle.std.proofs.lemmas.Str.{IsUtf8-take, IsUtf8-drop, IsCharBoundary-start, IsCharBoundary-end, IsCharBoundary-from_rest, chars-nil}
use Rattle.std.specs.Str.{chars, IsUtf8, IsCharBoundary}
use Rattle.text_edits.specs.declared.Encoding.TheVariants.{Utf8}
use Rattle.text_edits.specs.Lines.{lines, content}
use Rattle.text_edits.specs.Positions.{start_of}
use Rattle.text_edits.specs.Starts.{IsLastLine, IsNextLine, IsLineStart}
use Rattle.text_edits.specs.Units.{width}
use Rattle.text_edits.proofs.FirstLines.{lines_some}
use Rattle.text_edits.proofs.Widths.{width-chars}

-- ---- lists of lines

pub start_more : (ls : List (List ℕ)) (i : ℕ) (l : List ℕ) (rest : List (List ℕ)) → drop i ls ≡ l ∷ rest → (start_of ls (suc i) ≡ start_of ls i + width Utf8 l) × (drop (suc i) ls ≡ rest)
start_more ls zero l rest e = rw e (omega arith, refl)
start_more [] (suc i) l rest e = absurd cc
start_more (m ∷ ls) (suc i) l rest e = let h = start_more ls i l rest e in (omega (arith, h.0), h.1)

pub start_nil : (n : ℕ) → start_of [] n ≡ 0
start_nil zero = refl
start_nil (suc n) = refl

pub start_past : (ls : List (List ℕ)) (i n : ℕ) → drop i ls ≡ [] → i ≤ n → start_of ls n ≡ start_of ls i
start_past ls zero n e l = rw e (start_nil n)
start_past [] (suc i) n e l = start_nil n
start_past (m ∷ ls) (suc i) zero e l = absurd (omega arith)
start_past (m ∷ ls) (suc i) (suc n) e l = omega (arith, start_past ls i n e (omega arith))

pub line_past : (ls : List (List ℕ)) (i n : ℕ) → drop i ls ≡ [] → i ≤ n → get_or ls n [] ≡ []
line_past ls zero n e l = rw e refl
line_past [] (suc i) n e l = refl
line_past (m ∷ ls) (suc i) zero e l = absurd (omega arith)
line_past (m ∷ ls) (suc i) (suc n) e l = line_past ls i n e (omega arith)

pub line_here : (ls : List (List ℕ)) (i : ℕ) (l : List ℕ) (rest : List (List ℕ)) → drop i ls ≡ l ∷ rest → get_or ls i [] ≡ l
line_here ls zero l rest e = rw e refl
line_here [] (suc i) l rest e = absurd cc
line_here (m ∷ ls) (suc i) l rest e = line_here ls i l rest e

-- ---- a place in a text where a line begins

pub record IsAt (text : List ℕ) (start i : ℕ) : Type 0 where
  pub boundary : IsCharBoundary text start
  pub begins : start ≡ start_of (lines (chars text)) i
  pub rest : drop i (lines (chars text)) ≡ lines (chars (drop start text))

pub at_start : (text : List ℕ) → IsUtf8 text → IsAt text 0 0
at_start text u = record { boundary = IsCharBoundary-start text u; begins = refl; rest = refl }

pub next_width : (text : List ℕ) (n : ℕ) → IsUtf8 text → IsNextLine text n → width Utf8 (chars (take n text)) ≡ n
next_width text n u next = width-chars (take n text) (IsUtf8-take text n u next.boundary) ∙ omega (arith, length-take n text, next.boundary.0)

pub at_next : (text : List ℕ) (start i n : ℕ) → IsUtf8 text → IsAt text start i → IsNextLine (drop start text) n → IsAt text (start + n) (i + 1)
at_next text start i n u at next =
    let more = start_more (lines (chars text)) i _ _ (at.rest ∙ next.lines) in
    let wide = next_width (drop start text) n (IsUtf8-drop text start u at.boundary) next in
    record {
      boundary = IsCharBoundary-from_rest text start n at.boundary.0 next.boundary;
      begins = rw (add-one i) (omega (arith, more.0, wide, at.begins));
      rest = rw (add-one i) (more.1 ∙ ap (λ (l : List ℕ). lines (chars l)) (drop-drop n start text));
    }

pub at_line : (text : List ℕ) (start i : ℕ) → IsAt text start i → IsLineStart text i start
at_line text start i at =
    let some = lines_some (chars (drop start text)) in
    record {
      boundary = at.boundary;
      begins = at.begins;
      holds = sym some.holds ∙ sym (ap content (line_here (lines (chars text)) i some.first some.more (at.rest ∙ some.is)));
    }

pub at_past : (text : List ℕ) (start i n : ℕ) → IsUtf8 text → IsAt text start i → IsLastLine (drop start text) → i < n → IsLineStart text n (length text)
at_past text start i n u at last less =
    let more = start_more (lines (chars text)) i _ _ (at.rest ∙ last) in
    let wide = width-chars (drop start text) (IsUtf8-drop text start u at.boundary) in
    let past = start_past (lines (chars text)) (suc i) n more.1 (omega arith) in
    let none : drop (length text) text ≡ [] = drop-length text in
    record {
      boundary = IsCharBoundary-end text;
      begins = omega (arith, past, more.0, wide, at.begins, length-drop start text, at.boundary.0);
      holds = ap (λ (l : List ℕ). content (chars l)) none ∙ ap content chars-nil ∙ sym (ap content (line_past (lines (chars text)) (suc i) n more.1 (omega arith)));
    }
