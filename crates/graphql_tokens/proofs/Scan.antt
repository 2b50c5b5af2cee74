-- Bytes of a text that are read one at a time, and its characters.
use Rattle.std.proofs.Common.{◌≡◌, ℕ, zero, suc, ◌+◌, ◌≤◌, ◌<◌, Bool, true, false, cond, ◌&&◌, subst, ◌⊎◌, List, [], ◌∷◌, ◌++◌, length, drop, get_or, refl, sym, ap, ◌∙◌, arith, inl, inr, one-add, add-one, add-zero}
use Rattle.std.proofs.Math.Seq.{drop-append-add}
use Rattle.std.proofs.lemmas.Bool.{cases_lt}
use Rattle.std.proofs.lemmas.List.Sums.{prefix_len_is}
use Rattle.std.specs.Char.{encode_utf8}
use Rattle.std.specs.List.{prefix_len}
use Rattle.std.specs.Str.{chars, IsUtf8, IsCharBoundary, encode_utf8_all, all_scalars}
use Rattle.std.proofs.Math.Seq.{drop-cons}
use Rattle.std.proofs.lemmas.List.{get_or-drop}
use lib.Utf8.{scalar}
use Rattle.std.proofs.lemmas.Str.{encode_ascii, inside_one, length-encode, len_utf8_bounds, chars-encodes, chars_past_char, char_from_byte, byte_from_char, IsUtf8-drop}

-- the test treats all characters past ASCII alike
abbrev pub IsAlike : (ℕ → Bool) → Type 0
IsAlike p = (c d : ℕ) → 128 ≤ c → 128 ≤ d → p c ≡ p d

high_bytes : (c : ℕ) (rest : List ℕ) (k : ℕ) → 128 ≤ c → k < length (encode_utf8 c) → 128 ≤ get_or (encode_utf8 c ++ rest) k 0
high_bytes c rest k h l = let i = inside_one c rest (encode_utf8 c ++ rest) k refl l in by (cases_lt (get_or (encode_utf8 c ++ rest) k 0) 128) i
  where
    by : (get_or (encode_utf8 c ++ rest) k 0 < 128) ⊎ (128 ≤ get_or (encode_utf8 c ++ rest) k 0) → (get_or (encode_utf8 c ++ rest) k 0 < 128 → c ≡ get_or (encode_utf8 c ++ rest) k 0) → 128 ≤ get_or (encode_utf8 c ++ rest) k 0
    by (inl low) i = let e = i low in absurd (omega arith)
    by (inr high) i = high

encode_some : (c : ℕ) → 0 < length (encode_utf8 c)
encode_some c = omega (arith, length-encode c, len_utf8_bounds c)

all_pass : (p : ℕ → Bool) (xs rest : List ℕ) → ((k : ℕ) → k < length xs → p (get_or (xs ++ rest) k 0) ≡ true) → prefix_len p (xs ++ rest) ≡ length xs + prefix_len p rest
all_pass p [] rest h = omega arith
all_pass p (x ∷ xs) rest h =
    let r = all_pass p xs rest (λ k l. h (suc k) (omega arith)) in
    ap (λ b. cond b (1 + prefix_len p (xs ++ rest)) 0) (h 0 (omega arith)) ∙ omega arith

high_passes : (p : ℕ → Bool) → IsAlike p → (c : ℕ) (rest : List ℕ) → 128 ≤ c → p c ≡ true → prefix_len p (encode_utf8 c ++ rest) ≡ length (encode_utf8 c) + prefix_len p rest
high_passes p alike c rest h t = all_pass p (encode_utf8 c) rest (λ k l. alike (get_or (encode_utf8 c ++ rest) k 0) c (high_bytes c rest k h l) h ∙ t)

high_stops : (p : ℕ → Bool) → IsAlike p → (c : ℕ) (rest : List ℕ) → 128 ≤ c → p c ≡ false → prefix_len p (encode_utf8 c ++ rest) ≡ 0
high_stops p alike c rest h f =
    prefix_len_is p (encode_utf8 c ++ rest) 0 0 (omega arith) (λ k l. absurd (omega arith)) (λ l. alike (get_or (encode_utf8 c ++ rest) 0 0) c (high_bytes c rest 0 h (encode_some c)) h ∙ f)

abbrev IsSpan : (ℕ → Bool) → List ℕ → List ℕ → Type 0
IsSpan p bs cs = drop (prefix_len p bs) bs ≡ encode_utf8_all (drop (prefix_len p cs) cs)

span_low : (p : ℕ → Bool) (c : ℕ) (cs : List ℕ) → IsSpan p (encode_utf8_all cs) cs → encode_utf8 c ≡ c ∷ [] → (b : Bool)
    → drop (cond b (1 + prefix_len p (encode_utf8_all cs)) 0) (c ∷ encode_utf8_all cs) ≡ encode_utf8_all (drop (cond b (1 + prefix_len p cs) 0) (c ∷ cs))
span_low p c cs s e true = rw (one-add (prefix_len p (encode_utf8_all cs)), one-add (prefix_len p cs)) s
span_low p c cs s e false = ap (λ x. x ++ encode_utf8_all cs) (sym e)

span_high : (p : ℕ → Bool) → IsAlike p → (c : ℕ) (cs : List ℕ) → 128 ≤ c → IsSpan p (encode_utf8_all cs) cs → (b : Bool) → p c ≡ b
    → drop (prefix_len p (encode_utf8 c ++ encode_utf8_all cs)) (encode_utf8 c ++ encode_utf8_all cs) ≡ encode_utf8_all (drop (cond b (1 + prefix_len p cs) 0) (c ∷ cs))
span_high p alike c cs h s true e =
    ap (λ n. drop n (encode_utf8 c ++ encode_utf8_all cs)) (high_passes p alike c (encode_utf8_all cs) h e)
    ∙ drop-append-add (encode_utf8 c) (encode_utf8_all cs) (prefix_len p (encode_utf8_all cs))
    ∙ rw (one-add (prefix_len p cs)) s
span_high p alike c cs h s false e = ap (λ n. drop n (encode_utf8 c ++ encode_utf8_all cs)) (high_stops p alike c (encode_utf8_all cs) h e)

span_cons : (p : ℕ → Bool) → IsAlike p → (c : ℕ) (cs : List ℕ) → IsSpan p (encode_utf8_all cs) cs → (c < 128) ⊎ (128 ≤ c) → IsSpan p (encode_utf8_all (c ∷ cs)) (c ∷ cs)
span_cons p alike c cs s (inl low) =
    ap (λ x. drop (prefix_len p (x ++ encode_utf8_all cs)) (x ++ encode_utf8_all cs)) (encode_ascii c low) ∙ span_low p c cs s (encode_ascii c low) (p c)
span_cons p alike c cs s (inr high) = span_high p alike c cs high s (p c) refl

span : (p : ℕ → Bool) → IsAlike p → (cs : List ℕ) → IsSpan p (encode_utf8_all cs) cs
span p alike [] = refl
span p alike (c ∷ cs) = span_cons p alike c cs (span p alike cs) (cases_lt c 128)

and_right : (x y : Bool) → (x && y) ≡ true → y ≡ true
and_right true y h = h
and_right false y h = absurd (cc)

scalars_drop : (cs : List ℕ) (n : ℕ) → all_scalars cs ≡ true → all_scalars (drop n cs) ≡ true
scalars_drop cs zero h = h
scalars_drop [] (suc n) h = h
scalars_drop (c ∷ cs) (suc n) h = scalars_drop cs n (and_right (scalar c) (all_scalars cs) h)

-- the same of a text
pub span_chars : (p : ℕ → Bool) → IsAlike p → (bs : List ℕ) → IsUtf8 bs → chars (drop (prefix_len p bs) bs) ≡ drop (prefix_len p (chars bs)) (chars bs)
span_chars p alike bs u =
    let cs = u.0 in
    let e : chars bs ≡ cs = ap chars (sym u.1.1) ∙ chars-encodes cs u.1.0 in
    let s : drop (prefix_len p bs) bs ≡ encode_utf8_all (drop (prefix_len p cs) cs) = subst (λ (x : List ℕ). drop (prefix_len p x) x ≡ encode_utf8_all (drop (prefix_len p cs) cs)) u.1.1 (span p alike cs) in
    ap chars s ∙ chars-encodes (drop (prefix_len p cs) cs) (scalars_drop cs (prefix_len p cs) u.1.0) ∙ ap (λ x. drop (prefix_len p x) x) (sym e)

-- ---- one character, at a place where the text may be cut

-- a character at the front, in bytes and in characters
pub record Front (bs : List ℕ) : Type 0 where
  pub first : ℕ
  pub rest : List ℕ
  pub bytes : bs ≡ encode_utf8 first ++ rest
  pub is : chars bs ≡ first ∷ chars rest
  pub low : get_or bs 0 0 < 128 → first ≡ get_or bs 0 0
  pub high : 128 ≤ get_or bs 0 0 → 128 ≤ first

pub front : (bs : List ℕ) → IsUtf8 bs → 0 < length bs → Front bs
front bs u some = by u.0 u.1.1
  where
    by : (cs : List ℕ) → encode_utf8_all cs ≡ bs → Front bs
    by [] e = absurd (omega (arith, ap length e))
    by (c ∷ cs) e = record {
      first = c;
      rest = encode_utf8_all cs;
      bytes = sym e;
      is = chars_past_char bs (encode_utf8_all cs) c u (sym e);
      low = λ l. char_from_byte bs (encode_utf8_all cs) c (sym e) l some;
      high = λ h. not_low (cases_lt c 128) (λ l. byte_from_char bs (encode_utf8_all cs) c (sym e) l) h;
    }
      where
        not_low : (c < 128) ⊎ (128 ≤ c) → (c < 128 → get_or bs 0 0 ≡ c) → 128 ≤ get_or bs 0 0 → 128 ≤ c
        not_low (inl l) f h = let e = f l in absurd (omega arith)
        not_low (inr k) f h = k

pub get_or-drop_0 : (bs : List ℕ) (i : ℕ) → get_or (drop i bs) 0 0 ≡ get_or bs i 0
get_or-drop_0 bs i = get_or-drop i bs 0 0 ∙ ap (λ k. get_or bs k 0) (add-zero i)

-- an ASCII byte is a character
pub ascii_char : (bs : List ℕ) (i : ℕ) → IsUtf8 bs → IsCharBoundary bs i → i < length bs → get_or bs i 0 < 128 → chars (drop i bs) ≡ get_or bs i 0 ∷ chars (drop (i + 1) bs)
ascii_char bs i u b l h =
    let x = get_or bs i 0 in
    let e : drop i bs ≡ encode_utf8 x ++ drop (i + 1) bs = rw (encode_ascii x h, add-one i) (drop-cons bs i 0 l) in
    chars_past_char (drop i bs) (drop (i + 1) bs) x (IsUtf8-drop bs i u b) e
