-- Where lines begin, as an index has it.
use Rattle.std.proofs.Common.{◌≡◌, ℕ, zero, suc, ◌+◌, ◌-◌, ◌≤◌, ◌<◌, ◌⊎◌, List, [], ◌∷◌, ◌++◌, length, get_or, refl, sym, ap, ◌∙◌, subst, arith, inl, inr, append_assoc}
use Rattle.std.proofs.lemmas.List.{append-nil, get_or_default}
use Rattle.std.proofs.lemmas.List.Sorted.{IsNonDecreasingBy-from_default}
use Rattle.std.specs.List.Sorted.{IsNonDecreasing}
use Rattle.std.specs.Str.{chars, IsUtf8}
use Rattle.text_edits.specs.declared.Encoding.TheVariants.{Utf8}
use Rattle.text_edits.specs.Indexes.{line_starts, starts_of}
use Rattle.text_edits.specs.Lines.{lines, content}
use Rattle.text_edits.specs.Positions.{start_of, line_at, lines_passed}
use Rattle.text_edits.specs.Starts.{IsBegun, IsLineStart}
use Rattle.text_edits.specs.Units.{width}
use Rattle.text_edits.proofs.Boundaries.{cut_at}
use Rattle.text_edits.proofs.FirstLines.{InLine, More, first_line, lines_all, lines_some}
use Rattle.text_edits.proofs.Passed.{passed_stop, passed_step}
use Rattle.text_edits.proofs.Rounds.{more_lines}
use Rattle.text_edits.proofs.Starts.{start_nil}
use Rattle.text_edits.proofs.Widths.{width-append, width-chars}

-- ---- the list of starts

pub length-line_starts : (start : ℕ) (ls : List (List ℕ)) → length (line_starts start ls) ≡ length ls
length-line_starts start [] = refl
length-line_starts start (l ∷ ls) = ap suc (length-line_starts (start + width Utf8 l) ls)

pub get_or-line_starts : (start n : ℕ) (ls : List (List ℕ)) → n < length ls → get_or (line_starts start ls) n 0 ≡ start + start_of ls n
get_or-line_starts start n [] l = absurd (omega arith)
get_or-line_starts start zero (l ∷ ls) h = omega arith
get_or-line_starts start (suc n) (l ∷ ls) h = get_or-line_starts (start + width Utf8 l) n ls (omega arith) ∙ omega arith

start_rises : (ls : List (List ℕ)) (i j : ℕ) → i ≤ j → start_of ls i ≤ start_of ls j
start_rises ls zero j l = omega arith
start_rises ls (suc i) zero l = absurd (omega arith)
start_rises [] (suc i) (suc j) l = omega arith
start_rises (l ∷ ls) (suc i) (suc j) h = omega (arith, start_rises ls i j (omega arith))

pub starts_rise : (text : List ℕ) (i j : ℕ) → i ≤ j → j < length (starts_of text) → get_or (starts_of text) i 0 ≤ get_or (starts_of text) j 0
starts_rise text i j l h =
    let ls : List (List ℕ) = lines (chars text) in
    let long = length-line_starts 0 ls in
    omega (arith, get_or-line_starts 0 i ls (omega arith), get_or-line_starts 0 j ls (omega arith), start_rises ls i j l)

-- ---- as a line is looked up

-- the characters before a line, and from it on
record FrontAt (cs : List ℕ) (n : ℕ) : Type 0 where
  front : List ℕ
  rest : List ℕ
  whole : cs ≡ front ++ rest
  wide : width Utf8 front ≡ start_of (lines cs) n
  holds : content rest ≡ line_at (lines cs) n
  past : length (lines cs) ≤ n → rest ≡ []

front_at : (n : ℕ) (cs : List ℕ) → FrontAt cs n
front_at zero cs =
    let some = lines_some cs in
    record {
      front = [];
      rest = cs;
      whole = refl;
      wide = refl;
      holds = sym some.holds ∙ sym (ap (λ (l : List (List ℕ)). line_at l 0) some.is);
      past = λ l. absurd (omega (arith, ap length some.is));
    }
front_at (suc n) cs = by (first_line cs) (λ ds. front_at n ds)
  where
    by : InLine cs ⊎ More cs → ((ds : List ℕ) → FrontAt ds n) → FrontAt cs (suc n)
    by (inl all) ih =
        let one = lines_all cs all in
        record {
          front = cs;
          rest = [];
          whole = sym (append-nil cs);
          wide = sym (ap (λ (l : List (List ℕ)). start_of l (suc n)) one ∙ ap (λ k. width Utf8 cs + k) (start_nil n) ∙ omega arith);
          holds = sym (ap (λ (l : List (List ℕ)). line_at l (suc n)) one);
          past = λ l. refl;
        }
    by (inr more) ih =
        let there = more_lines cs more in
        let f = ih more.rest in
        let first : List ℕ = more.body ++ more.end in
        record {
          front = first ++ f.front;
          rest = f.rest;
          whole = more.whole ∙ sym (append_assoc more.body more.end more.rest) ∙ ap (λ (l : List ℕ). first ++ l) f.whole ∙ sym (append_assoc first f.front f.rest);
          wide = width-append Utf8 first f.front ∙ ap (λ k. width Utf8 first + k) f.wide ∙ sym (ap (λ (l : List (List ℕ)). start_of l (suc n)) there);
          holds = f.holds ∙ sym (ap (λ (l : List (List ℕ)). line_at l (suc n)) there);
          past = λ l. f.past (omega (arith, ap length there));
        }

pub start_at : (text : List ℕ) (n : ℕ) → IsUtf8 text → IsLineStart text n (start_of (lines (chars text)) n)
start_at text n u =
    let f = front_at n (chars text) in
    let cut = cut_at text f.front f.rest u f.whole in
    subst (λ k. IsLineStart text n k) f.wide (record {
      boundary = cut.boundary;
      begins = f.wide;
      holds = ap content cut.after ∙ f.holds;
    })

pub start_at_end : (text : List ℕ) (n : ℕ) → IsUtf8 text → length (starts_of text) ≤ n → IsLineStart text n (length text)
start_at_end text n u past =
    let f = front_at n (chars text) in
    let none = f.past (omega (arith, length-line_starts 0 (lines (chars text)))) in
    let all : start_of (lines (chars text)) n ≡ length text = sym f.wide ∙ ap (width Utf8) (sym (f.whole ∙ ap (λ (l : List ℕ). f.front ++ l) none ∙ append-nil f.front)) ∙ width-chars text u in
    subst (λ k. IsLineStart text n k) all (start_at text n u)

pub start_found : (text : List ℕ) (n start : ℕ) → IsUtf8 text → n < length (starts_of text) → get_or (starts_of text) n 0 ≡ start → IsLineStart text n start
start_found text n start u l e =
    let ls : List (List ℕ) = lines (chars text) in
    let long = length-line_starts 0 ls in
    let same : start_of ls n ≡ start = omega (arith, e, get_or-line_starts 0 n ls (omega arith)) in
    subst (λ k. IsLineStart text n k) same (start_at text n u)

-- ---- as an offset is looked up

passed_is : (ls : List (List ℕ)) (n offset : ℕ) → n < length ls → start_of ls n ≤ offset → (suc n < length ls → offset < start_of ls (suc n)) → lines_passed ls offset ≡ n
passed_is [] n offset l low high = absurd (omega arith)
passed_is (l ∷ []) zero offset h low high = refl
passed_is (l ∷ []) (suc n) offset h low high = absurd (omega arith)
passed_is (l ∷ m ∷ ls) zero offset h low high =
    let less = high (omega arith) in
    passed_stop l m ls offset (omega arith)
passed_is (l ∷ m ∷ ls) (suc n) offset h low high =
    passed_step l m ls offset (omega arith) ∙ ap suc (passed_is (m ∷ ls) n (offset - width Utf8 l) (omega arith) (omega arith) (λ k. let less = high (omega arith) in omega arith))

-- a line begins before the offset, and the next one after it
pub found_between : (text : List ℕ) (next offset : ℕ) → 0 < next → next ≤ length (starts_of text) → ((k : ℕ) → k < next → get_or (starts_of text) k 0 ≤ offset)
    → ((k : ℕ) → next ≤ k → k < length (starts_of text) → offset < get_or (starts_of text) k 0) → next - 1 ≡ lines_passed (lines (chars text)) offset
found_between text next offset some within low high =
    let ls : List (List ℕ) = lines (chars text) in
    let long = length-line_starts 0 ls in
    let one : suc (next - 1) ≡ next = omega arith in
    let here = get_or-line_starts 0 (next - 1) ls (omega arith) in
    let before = low (next - 1) (omega arith) in
    sym (passed_is ls (next - 1) offset (omega arith) (omega arith) (λ k. omega (arith, high (suc (next - 1)) (omega arith) (omega arith), get_or-line_starts 0 (suc (next - 1)) ls k)))

-- the first line begins at 0, so an offset is never before each line
pub not_first : (text : List ℕ) (next offset : ℕ) → ((k : ℕ) → next ≤ k → k < length (starts_of text) → offset < get_or (starts_of text) k 0) → 0 < next
not_first text zero offset high =
    let some = lines_some (chars text) in
    let long : length (starts_of text) ≡ suc (length some.more) = length-line_starts 0 (lines (chars text)) ∙ ap length some.is in
    let first : get_or (starts_of text) 0 0 ≡ 0 = ap (λ (l : List (List ℕ)). get_or (line_starts 0 l) 0 0) some.is in
    absurd (omega (arith, high 0 (omega arith) (omega arith)))
not_first text (suc next) offset high = omega arith

-- the starts are in order, as a search asks
pub begun_text : (text starts : List ℕ) (offset n : ℕ) → (IsNonDecreasing starts → IsBegun starts offset n) → starts ≡ starts_of text → IsBegun (starts_of text) offset n
begun_text text starts offset n sorted same =
    subst (λ (l : List ℕ). IsBegun l offset n) same (sorted (subst IsNonDecreasing (sym same) (IsNonDecreasingBy-from_default (λ x. x) (starts_of text) 0 (starts_rise text))))

-- ---- what the code reads of it

pub read_at : (text starts : List ℕ) (n x : ℕ) → starts ≡ starts_of text → n < length (starts_of text) → x ≡ get_or starts n x → get_or (starts_of text) n 0 ≡ x
read_at text starts n x same l e = get_or_default (starts_of text) n 0 x l ∙ ap (λ (k : List ℕ). get_or k n x) (sym same) ∙ sym e
