-- The byte at the offset, and the first character of what is ahead.
use Rattle.std.proofs.Common.{◌≡◌, ◌≢◌, ℕ, ◌≤◌, ◌<◌, ◌⊎◌, List, [], ◌∷◌, length, drop, get_or, refl, sym, ap, ◌∙◌, arith, inl, inr, add-zero, length-drop, subst}
use Rattle.std.proofs.lemmas.Bool.{cases_lt}
use Rattle.std.proofs.lemmas.List.{get_or-drop}
use Rattle.std.specs.Str.{chars, IsUtf8, encode_utf8_all}
use Rattle.std.proofs.lemmas.Str.{chars_past_char, char_from_byte, byte_from_char, encodes-chars, IsUtf8-drop}
use Rattle.graphql_tokens.specs.inner.Running.{ahead, IsRunning, BeginsInAscii}
use Rattle.graphql_tokens.specs.inner.Lexing.{RunsOver, IsFirstByte}
use Rattle.graphql_tokens.proofs.Running.{nothing_ahead}
use Rattle.graphql_tokens.specs.declared.pos.running.RunningPlace.{RunningPlace}

first_byte : (bs : List ℕ) → IsUtf8 bs → 0 < length bs → get_or bs 0 0 < 256 → IsFirstByte (get_or bs 0 0) (chars bs)
first_byte bs u some fits = by u.0 u.1.1
  where
    by : (cs : List ℕ) → encode_utf8_all cs ≡ bs → IsFirstByte (get_or bs 0 0) (chars bs)
    by [] e = absurd (omega (arith, ap length e))
    by (c ∷ cs) e = subst (IsFirstByte (get_or bs 0 0)) (sym is) (low (cases_lt (get_or bs 0 0) 128) (cases_lt c 128))
      where
        rest : List ℕ
        rest = encode_utf8_all cs

        is : chars bs ≡ c ∷ chars (encode_utf8_all cs)
        is = chars_past_char bs (encode_utf8_all cs) c u (sym e)

        low : (get_or bs 0 0 < 128) ⊎ (128 ≤ get_or bs 0 0) → (c < 128) ⊎ (128 ≤ c) → IsFirstByte (get_or bs 0 0) (c ∷ chars (encode_utf8_all cs))
        low (inl l) k = inl (l, char_from_byte bs (encode_utf8_all cs) c (sym e) l some)
        low (inr h) (inl k) = absurd (omega (arith, byte_from_char bs (encode_utf8_all cs) c (sym e) k))
        low (inr h) (inr k) = inr (h, fits, k)

pub byte_ahead : (a : RunningPlace) → IsRunning a → a.walk.offset < length a.walk.text.now → get_or a.walk.text.now a.walk.offset 0 < 256 → IsFirstByte (get_or a.walk.text.now a.walk.offset 0) (ahead a)
byte_ahead a r l fits =
    let bs = a.walk.text.now in
    let i = a.walk.offset in
    let at : get_or (drop i bs) 0 0 ≡ get_or bs i 0 = get_or-drop i bs 0 0 ∙ ap (λ k. get_or bs k 0) (add-zero i) in
    subst (λ (b : ℕ). IsFirstByte b (ahead a)) at (first_byte (drop i bs) (IsUtf8-drop bs i r.reading.utf8 r.reading.boundary) (omega (arith, length-drop i bs)) (rw at fits))

pub peek_some : (bytes : List ℕ) (a : RunningPlace) (i : ℕ) → RunsOver bytes a → i ≡ a.walk.offset → i < length bytes → get_or bytes i 0 < 256 → IsFirstByte (get_or bytes i 0) (ahead a)
peek_some bytes a i r is l fits =
    let P : List ℕ → ℕ → Type 0 = λ bs k. k < length bs → get_or bs k 0 < 256 → IsFirstByte (get_or bs k 0) (ahead a) in
    subst (λ (bs : List ℕ). P bs i) r.same (subst (P a.walk.text.now) (sym is) (byte_ahead a r.running)) l fits

pub peek_none : (bytes : List ℕ) (a : RunningPlace) (i : ℕ) → RunsOver bytes a → i ≡ a.walk.offset → length bytes ≤ i → ahead a ≡ []
peek_none bytes a i r is h = nothing_ahead a (omega (arith, is, ap length r.same))

-- an ASCII character is its byte
byte_of : (a : RunningPlace) (c : ℕ) (cs : List ℕ) → IsRunning a → ahead a ≡ c ∷ cs → c < 128 → get_or a.walk.text.now a.walk.offset 0 ≡ c
byte_of a c cs r e l =
    let bs = a.walk.text.now in
    let i = a.walk.offset in
    let is : drop i bs ≡ encode_utf8_all (c ∷ cs) = sym (encodes-chars (drop i bs) (IsUtf8-drop bs i r.reading.utf8 r.reading.boundary)) ∙ ap encode_utf8_all e in
    ap (λ n. get_or bs n 0) (sym (add-zero i)) ∙ sym (get_or-drop i bs 0 0) ∙ byte_from_char (drop i bs) (encode_utf8_all cs) c is l

pub ascii_ahead : (a : RunningPlace) → IsRunning a → BeginsInAscii (ahead a) → get_or a.walk.text.now a.walk.offset 0 < 128
ascii_ahead a r h = by (ahead a) refl h
  where
    by : (cs : List ℕ) → ahead a ≡ cs → BeginsInAscii cs → get_or a.walk.text.now a.walk.offset 0 < 128
    by [] e k = absurd k
    by (c ∷ cs) e k = omega (arith, byte_of a c cs r e k.0, k.0)

-- a first byte of an ASCII character, which is that character
pub first_ahead : (b : ℕ) (a : RunningPlace) → IsRunning a → IsFirstByte b (ahead a) → b < 128 → (ahead a ≢ []) × (get_or a.walk.text.now a.walk.offset 0 ≡ b)
first_ahead b a r f l = by (ahead a) refl f
  where
    by : (cs : List ℕ) → ahead a ≡ cs → IsFirstByte b cs → (ahead a ≢ []) × (get_or a.walk.text.now a.walk.offset 0 ≡ b)
    by [] e k = absurd k
    by (c ∷ cs) e (inl k) = ((λ n. absurd (cc)), byte_of a c cs r e (omega (arith, k.1)) ∙ k.1)
    by (c ∷ cs) e (inr k) = absurd (omega (arith, k.0))

pub some_ascii : (text : List ℕ) → BeginsInAscii text → text ≢ []
some_ascii [] h e = h
some_ascii (c ∷ cs) h e = cc

pub ahead_some : (a : RunningPlace) → IsRunning a → a.walk.offset < length a.walk.text.now → ahead a ≢ []
ahead_some a r l e =
    let bs = a.walk.text.now in
    let k = r.reading in
    let same : drop a.walk.offset bs ≡ [] = sym (encodes-chars (drop a.walk.offset bs) (IsUtf8-drop bs a.walk.offset k.utf8 k.boundary)) ∙ ap encode_utf8_all e in
    omega (arith, ap length same, length-drop a.walk.offset bs)
