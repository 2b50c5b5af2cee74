-- Where a text is cut, in bytes and in characters, and its first line, in bytes.
use Rattle.std.proofs.Common.{◌≡◌, ℕ, ◌+◌, ◌≤◌, ◌<◌, ◌⊎◌, Bool, true, false, eqb, Some, None, List, [], ◌∷◌, ◌++◌, length, take, drop, get_or, refl, sym, ap, ◌∙◌, subst, arith, inl, inr, append_assoc, length-append, length-take, add-one, add-zero}
use Rattle.std.proofs.Math.Seq.{drop-cons}
use Rattle.std.proofs.lemmas.Bool.{cases_lt, cases_Bool, eqb-true}
use Rattle.std.proofs.lemmas.Bool.Decides.{nat_tests}
use Rattle.std.proofs.lemmas.List.{append_cancel_right, take-append-drop, get_or-drop, get_or-append-add, get_or-take, get_or_past}
use Rattle.std.proofs.lemmas.Str.{chars-append, chars_past_char, encode_ascii, byte_from_char, encodes-chars, chars-encodes, IsUtf8-take, IsUtf8-drop, IsCharBoundary-before_ascii, IsCharBoundary-after_ascii}
use Rattle.std.specs.Char.{encode_utf8}
use Rattle.std.specs.Str.{chars, IsUtf8, IsCharBoundary, encode_utf8_all}
use Rattle.memchr.specs.Find.{IsFirstByte, is_byte2}
use Rattle.text_edits.specs.Lines.{begins_with_line_feed, is_line_end, lines, content}
use Rattle.text_edits.specs.Starts.{IsNextLine}
use Rattle.text_edits.proofs.FirstLines.{InLine, IsEnd, lines_end, content_stop}

pub chars_split : (bs : List ℕ) (i : ℕ) → IsUtf8 bs → IsCharBoundary bs i → chars bs ≡ chars (take i bs) ++ chars (drop i bs)
chars_split bs i u b =
    let e = chars-append (take i bs) (drop i bs) (IsUtf8-take bs i u b) in
    rw (take-append-drop i bs) at e

-- ---- an ASCII byte is a character

pub ascii_char : (bs : List ℕ) (i : ℕ) → IsUtf8 bs → IsCharBoundary bs i → i < length bs → get_or bs i 0 < 128 → chars (drop i bs) ≡ get_or bs i 0 ∷ chars (drop (i + 1) bs)
ascii_char bs i u b l h =
    let x = get_or bs i 0 in
    let e : drop i bs ≡ encode_utf8 x ++ drop (i + 1) bs = rw (encode_ascii x h, add-one i) (drop-cons bs i 0 l) in
    chars_past_char (drop i bs) (drop (i + 1) bs) x (IsUtf8-drop bs i u b) e

-- a text begins with a line feed only if its first byte is one
pub begins_byte : (bs : List ℕ) → IsUtf8 bs → (get_or bs 0 0 ≡ 10 → ⊥) → begins_with_line_feed (chars bs) ≡ false
begins_byte bs u other = by u.0 u.1.1 (chars bs) (ap chars (sym u.1.1) ∙ chars-encodes u.0 u.1.0)
  where
    by : (cs : List ℕ) → encode_utf8_all cs ≡ bs → (ds : List ℕ) → ds ≡ cs → begins_with_line_feed ds ≡ false
    by [] e ds same = rw same refl
    by (c ∷ cs) e ds same = rw same (test (cases_Bool (eqb c 10)))
      where
        test : (eqb c 10 ≡ true) ⊎ (eqb c 10 ≡ false) → eqb c 10 ≡ false
        test (inl feed) =
            let is : c ≡ 10 = eqb-true c 10 feed in
            absurd (other (byte_from_char bs (encode_utf8_all cs) c (sym e) (omega arith) ∙ is))
        test (inr none) = none

-- if none of its bytes ends a line, none of its characters does
in_line_encodes : (cs : List ℕ) → ((k : ℕ) → k < length (encode_utf8_all cs) → is_line_end (get_or (encode_utf8_all cs) k 0) ≡ false) → InLine cs
in_line_encodes [] h = tt
in_line_encodes (c ∷ cs) h = (
  first (cases_lt c 128),
  in_line_encodes cs (λ k l. ap is_line_end (sym (get_or-append-add (encode_utf8 c) (encode_utf8_all cs) k 0)) ∙ h (length (encode_utf8 c) + k) (omega (arith, length-append (encode_utf8 c) (encode_utf8_all cs)))),
)
  where
    first : (c < 128) ⊎ (128 ≤ c) → is_line_end c ≡ false
    first (inl low) = ap (λ (l : List ℕ). is_line_end (get_or (l ++ encode_utf8_all cs) 0 0)) (sym (encode_ascii c low)) ∙ h 0 (omega (arith, length-append (encode_utf8 c) (encode_utf8_all cs), ap length (encode_ascii c low)))
    first (inr high) = grind (arith, nat_tests)

pub in_line_text : (bs : List ℕ) → IsUtf8 bs → ((k : ℕ) → k < length bs → is_line_end (get_or bs k 0) ≡ false) → InLine (chars bs)
in_line_text bs u h =
    in_line_encodes (chars bs) (subst (λ (l : List ℕ). (k : ℕ) → k < length l → is_line_end (get_or l k 0) ≡ false) (sym (encodes-chars bs u)) h)

-- the same of a front
pub in_line_front : (bs : List ℕ) (i : ℕ) → IsUtf8 bs → IsCharBoundary bs i → ((k : ℕ) → k < i → is_line_end (get_or bs k 0) ≡ false) → InLine (chars (take i bs))
in_line_front bs i u b h =
    in_line_text (take i bs) (IsUtf8-take bs i u b) (λ k l.
    let within : k < i = omega (arith, length-take i bs) in
    ap is_line_end (get_or-take i bs k 0 within) ∙ h k within)

-- ---- the first line ends in bytes

pub next_line : (bs : List ℕ) (i n : ℕ) (end : List ℕ) → IsUtf8 bs → IsCharBoundary bs i → IsCharBoundary bs n → 0 < n → InLine (chars (take i bs))
    → chars (drop i bs) ≡ end ++ chars (drop n bs) → IsEnd end (chars (drop n bs)) → IsNextLine bs n
next_line bs i n end u b d some body here is =
    let whole : chars bs ≡ chars (take i bs) ++ (end ++ chars (drop n bs)) = chars_split bs i u b ∙ ap (λ (l : List ℕ). chars (take i bs) ++ l) here in
    let front : chars (take i bs) ++ end ≡ chars (take n bs) =
    append_cancel_right (chars (take i bs) ++ end) (chars (take n bs)) (chars (drop n bs)) (append_assoc (chars (take i bs)) end (chars (drop n bs)) ∙ sym whole ∙ chars_split bs n u d) in
    record {
      some = some;
      boundary = d;
      lines = ap lines whole ∙ lines_end (chars (take i bs)) end (chars (drop n bs)) body is ∙ ap (λ (l : List ℕ). l ∷ lines (chars (drop n bs))) front;
    }

-- the first byte that ends a line, in the bytes of a text
pub record Ends (bs : List ℕ) (i : ℕ) : Type 0 where
  pub within : i < length bs
  pub before : (k : ℕ) → k < i → is_line_end (get_or bs k 0) ≡ false
  pub here : is_line_end (get_or bs i 0) ≡ true

pub end_ascii : (c : ℕ) → is_line_end c ≡ true → c < 128
end_ascii c e = grind (arith, nat_tests)

end_other : (c : ℕ) → is_line_end c ≡ true → (c ≡ 10 → ⊥) → c ≡ 13
end_other c e other = grind (arith, nat_tests)

pub boundary_here : (bs : List ℕ) (i : ℕ) → Ends bs i → IsCharBoundary bs i
boundary_here bs i e = IsCharBoundary-before_ascii bs i e.within (end_ascii (get_or bs i 0) e.here)

boundary_after : (bs : List ℕ) (i : ℕ) → IsUtf8 bs → Ends bs i → IsCharBoundary bs (i + 1)
boundary_after bs i u e = IsCharBoundary-after_ascii bs i u e.within (end_ascii (get_or bs i 0) e.here)

body_here : (bs : List ℕ) (i : ℕ) → IsUtf8 bs → Ends bs i → InLine (chars (take i bs))
body_here bs i u e = in_line_front bs i u (boundary_here bs i e) e.before

char_here : (bs : List ℕ) (i c : ℕ) → IsUtf8 bs → Ends bs i → get_or bs i 0 ≡ c → chars (drop i bs) ≡ c ∷ chars (drop (i + 1) bs)
char_here bs i c u e is = ascii_char bs i u (boundary_here bs i e) e.within (end_ascii (get_or bs i 0) e.here) ∙ ap (λ x. x ∷ chars (drop (i + 1) bs)) is

pub ends_in_feed : (bs : List ℕ) (i : ℕ) → IsUtf8 bs → Ends bs i → get_or bs i 0 ≡ 10 → IsNextLine bs (i + 1)
ends_in_feed bs i u e is =
    next_line bs i (i + 1) (10 ∷ []) u (boundary_here bs i e) (boundary_after bs i u e) (omega arith) (body_here bs i u e) (char_here bs i 10 u e is) (inl refl)

pub ends_in_return : (bs : List ℕ) (i : ℕ) → IsUtf8 bs → Ends bs i → (get_or bs i 0 ≡ 10 → ⊥) → (get_or bs (i + 1) 0 ≡ 10 → ⊥) → IsNextLine bs (i + 1)
ends_in_return bs i u e other after =
    let d = boundary_after bs i u e in
    let first : get_or (drop (i + 1) bs) 0 0 ≡ get_or bs (i + 1) 0 = get_or-drop (i + 1) bs 0 0 ∙ ap (λ k. get_or bs k 0) (add-zero (i + 1)) in
    let more : begins_with_line_feed (chars (drop (i + 1) bs)) ≡ false = begins_byte (drop (i + 1) bs) (IsUtf8-drop bs (i + 1) u d) (λ h. after (sym first ∙ h)) in
    next_line bs i (i + 1) (13 ∷ []) u (boundary_here bs i e) d (omega arith) (body_here bs i u e) (char_here bs i 13 u e (end_other (get_or bs i 0) e.here other)) (inr (inr (refl, more)))

pub ends_in_both : (bs : List ℕ) (i : ℕ) → IsUtf8 bs → Ends bs i → (get_or bs i 0 ≡ 10 → ⊥) → i + 1 < length bs → get_or bs (i + 1) 0 ≡ 10 → IsNextLine bs (i + 2)
ends_in_both bs i u e other within is =
    let d = boundary_after bs i u e in
    let two : i + 1 + 1 ≡ i + 2 = omega arith in
    let low : get_or bs (i + 1) 0 < 128 = omega (arith, is) in
    let b : IsCharBoundary bs (i + 2) = subst (IsCharBoundary bs) two (IsCharBoundary-after_ascii bs (i + 1) u within low) in
    let feed : chars (drop (i + 1) bs) ≡ 10 ∷ chars (drop (i + 2) bs) = ascii_char bs (i + 1) u d within low ∙ ap (λ x. x ∷ chars (drop (i + 1 + 1) bs)) is ∙ ap (λ n. 10 ∷ chars (drop n bs)) two in
    next_line bs i (i + 2) (13 ∷ 10 ∷ []) u (boundary_here bs i e) b (omega arith) (body_here bs i u e)
    (char_here bs i 13 u e (end_other (get_or bs i 0) e.here other) ∙ ap (λ (l : List ℕ). 13 ∷ l) feed) (inr (inl refl))

-- what the first line contains
pub content_here : (bs : List ℕ) (i : ℕ) → IsUtf8 bs → Ends bs i → chars (take i bs) ≡ content (chars bs)
content_here bs i u e =
    let c = get_or bs i 0 in
    let whole : chars bs ≡ chars (take i bs) ++ (c ∷ chars (drop (i + 1) bs)) =
    chars_split bs i u (boundary_here bs i e) ∙ ap (λ (l : List ℕ). chars (take i bs) ++ l) (char_here bs i c u e refl) in
    sym (ap content whole ∙ content_stop (chars (take i bs)) c (chars (drop (i + 1) bs)) (body_here bs i u e) e.here)

-- ---- what a search for such a byte finds

stops_here : (c : ℕ) → is_byte2 10 13 c ≡ true → is_line_end c ≡ true
stops_here c e = e

goes_on : (c : ℕ) → ¬ (is_byte2 10 13 c ≡ true) → is_line_end c ≡ false
goes_on c n = by (is_line_end c) refl
  where
    by : (b : Bool) → is_line_end c ≡ b → is_line_end c ≡ false
    by true e = absurd (n e)
    by false e = e

pub found : (text bytes : List ℕ) (i : ℕ) → bytes ≡ text → IsFirstByte (is_byte2 10 13) bytes (Some i) → Ends text i
found text bytes i same f =
    let here : IsFirstByte (is_byte2 10 13) text (Some i) = subst (λ (l : List ℕ). IsFirstByte (is_byte2 10 13) l (Some i)) same f in
    record { within = here.0.high; before = λ k l. goes_on (get_or text k 0) (here.0.before k (omega arith) l); here = here.1 }

pub no_ends : (text bytes : List ℕ) → bytes ≡ text → IsFirstByte (is_byte2 10 13) bytes None → (k : ℕ) → k < length text → is_line_end (get_or text k 0) ≡ false
no_ends text bytes same f k l =
    let here : IsFirstByte (is_byte2 10 13) text None = subst (λ (l : List ℕ). IsFirstByte (is_byte2 10 13) l None) same f in
    goes_on (get_or text k 0) (here k (omega arith) l)

pub found_none : (text bytes : List ℕ) → IsUtf8 text → bytes ≡ text → IsFirstByte (is_byte2 10 13) bytes None → InLine (chars text)
found_none text bytes u same f = in_line_text text u (no_ends text bytes same f)

-- a byte past the end reads as 0, so a line feed is within
pub byte_there : (bs : List ℕ) (k : ℕ) → get_or bs k 0 ≡ 10 → k < length bs
byte_there bs k e = by (cases_lt k (length bs))
  where
    by : (k < length bs) ⊎ (length bs ≤ k) → k < length bs
    by (inl l) = l
    by (inr past) = absurd (omega (arith, e, get_or_past bs k 0 past))
