-- Where the first line of a text ends.
use Rattle.std.proofs.Common.{◌≡◌, ℕ, ◌<◌, ◌≤◌, Bool, true, false, not, Option, Some, None, List, [], ◌∷◌, ◌++◌, length, take, drop, get_or, refl, sym, ap, ◌∙◌, subst, arith, length-drop, length-take, one-add}
use Rattle.std.proofs.lemmas.Bool.Decides.{nat_tests}
use Rattle.std.proofs.lemmas.List.{append_cancel_right, take-append-drop}
use Rattle.std.proofs.lemmas.List.Sums.{prefix_len_is, prefix_len-le-length}
use Rattle.std.proofs.lemmas.Str.{IsUtf8-take, IsUtf8-drop}
use Rattle.std.specs.List.{AllByRecursion, prefix_len}
use Rattle.std.specs.Option.{unwrap_or}
use Rattle.std.specs.Str.{chars, IsUtf8, IsCharBoundary}
use Rattle.memchr.specs.Find.{IsFirstByte, is_byte2}
use Rattle.graphql_tokens.specs.tokens.Ignored.{EndsLine}
use Rattle.graphql_tokens.specs.tokens.Place.{is_line_end, is_in_line}
use Rattle.graphql_tokens.proofs.BlockLines.{line_boundary}
use Rattle.graphql_tokens.proofs.Chars.{chars_split}
use Rattle.graphql_tokens.proofs.Scan.{IsAlike, span_chars}
use Rattle.graphql_layout.specs.inner.FirstLine.{IsFirstLine}

alike : IsAlike is_in_line
alike c d h k = grind (arith, nat_tests)

stops_here : (c : ℕ) → is_byte2 10 13 c ≡ true → is_in_line c ≡ false
stops_here c e = ap not e

goes_on : (c : ℕ) → ¬ (is_byte2 10 13 c ≡ true) → is_in_line c ≡ true
goes_on c n = by (is_line_end c) refl
  where
    by : (b : Bool) → is_line_end c ≡ b → not (is_line_end c) ≡ true
    by true e = absurd (n e)
    by false e = ap not e

is_ascii : (c : ℕ) → is_byte2 10 13 c ≡ true → c < 128
is_ascii c e = grind (arith, nat_tests)

-- the place where the first line ends
pub record IsEnd (text : List ℕ) (n : ℕ) : Type 0 where
  pub within : n ≤ length text
  pub passed : prefix_len is_in_line text ≡ n
  pub boundary : IsCharBoundary text n

-- where a search for a line's end stops
pub found_end : (text : List ℕ) (found : Option ℕ) → IsFirstByte (is_byte2 10 13) text found → prefix_len is_in_line text ≡ unwrap_or found (length text)
found_end text None f = prefix_len_is is_in_line text (length text) 0 (omega arith) (λ k l. goes_on (get_or text k 0) (f k (omega arith) l)) (λ l. absurd (omega arith))
found_end text (Some i) f = prefix_len_is is_in_line text i 0 (omega (arith, f.0.high)) (λ k l. goes_on (get_or text k 0) (f.0.before k (omega arith) l)) (λ l. stops_here (get_or text i 0) f.1)

pub ended : (text bytes : List ℕ) (n : ℕ) → bytes ≡ text → n ≡ prefix_len is_in_line bytes → IsEnd text n
ended text bytes n same e =
    let is : n ≡ prefix_len is_in_line text = e ∙ ap (prefix_len is_in_line) same in
    let within : n ≤ length text = omega (arith, is, prefix_len-le-length is_in_line text) in
    record { within = within; passed = sym is; boundary = line_boundary text 0 n (omega (arith, is)) within }

passing : (cs : List ℕ) → AllByRecursion (λ c. is_line_end c ≡ false) (take (prefix_len is_in_line cs) cs)
passing [] = tt
passing (c ∷ cs) = by (is_line_end c) refl (passing cs)
  where
    by : (b : Bool) → is_line_end c ≡ b → AllByRecursion (λ c. is_line_end c ≡ false) (take (prefix_len is_in_line cs) cs) → AllByRecursion (λ c. is_line_end c ≡ false) (take (prefix_len is_in_line (c ∷ cs)) (c ∷ cs))
    by true e more = rw e tt
    by false e more = rw (e, one-add (prefix_len is_in_line cs)) (e, more)

stopped : (cs : List ℕ) → EndsLine (drop (prefix_len is_in_line cs) cs)
stopped [] = tt
stopped (c ∷ cs) = by (is_line_end c) refl (stopped cs)
  where
    by : (b : Bool) → is_line_end c ≡ b → EndsLine (drop (prefix_len is_in_line cs) cs) → EndsLine (drop (prefix_len is_in_line (c ∷ cs)) (c ∷ cs))
    by true e more = rw e e
    by false e more = rw (e, one-add (prefix_len is_in_line cs)) more

pub first_line : (text first rest : List ℕ) (n : ℕ) → IsUtf8 text → IsEnd text n → first ≡ take n text → rest ≡ drop n text → IsFirstLine text first rest
first_line text first rest n u end f g =
    let cs = chars text in
    let m = prefix_len is_in_line cs in
    let after : chars (drop n text) ≡ drop m cs = ap (λ (k : ℕ). chars (drop k text)) (sym end.passed) ∙ span_chars is_in_line alike text u in
    let before : chars (take n text) ≡ take m cs =
    append_cancel_right (chars (take n text)) (take m cs) (drop m cs) (ap (λ (l : List ℕ). chars (take n text) ++ l) (sym after) ∙ sym (chars_split text n u end.boundary) ∙ sym (take-append-drop m cs)) in
    rw (f, g) record {
      whole = chars_split text n u end.boundary;
      in_line = subst (λ (l : List ℕ). AllByRecursion (λ c. is_line_end c ≡ false) l) (sym before) (passing cs);
      ends = subst EndsLine (sym after) (stopped cs);
      utf8 = IsUtf8-take text n u end.boundary;
      rest_utf8 = IsUtf8-drop text n u end.boundary;
      long = omega (arith, length-drop n text, length-take n text, end.within);
    }
