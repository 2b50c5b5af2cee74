-- The characters of a text, cut where a character begins.
use Rattle.std.proofs.Common.{◌≡◌, ℕ, ◌+◌, ◌-◌, ◌≤◌, ◌<◌, List, [], ◌∷◌, ◌++◌, length, take, drop, sym, ap, ◌∙◌, append_assoc, arith, length-append, length-drop, length-take}
use Rattle.std.specs.Char.{encode_utf8, len_utf8}
use Rattle.std.specs.Str.{chars, IsUtf8, IsCharBoundary, encode_utf8_all}
use Rattle.std.proofs.lemmas.List.{append_cancel_right, take-append-drop}
use Rattle.std.proofs.lemmas.Str.{chars-append, chars_past_char, encode_same, length-encode, IsUtf8-take, IsUtf8-drop, IsUtf8-between, IsCharBoundary-past_char, encodes-chars, length-le-encodes}

-- a text has no more characters than bytes
pub length-chars : (bs : List ℕ) → IsUtf8 bs → length (chars bs) ≤ length bs
length-chars bs u = let h = length-le-encodes (chars bs) in rw (encodes-chars bs u) at h

pub chars_split : (bs : List ℕ) (i : ℕ) → IsUtf8 bs → IsCharBoundary bs i → chars bs ≡ chars (take i bs) ++ chars (drop i bs)
chars_split bs i u b =
    let e = chars-append (take i bs) (drop i bs) (IsUtf8-take bs i u b) in
    rw (take-append-drop i bs) at e

-- the place after a character
pub boundary_past : (bs : List ℕ) (i j c : ℕ) → IsUtf8 bs → IsCharBoundary bs i → drop i bs ≡ encode_utf8 c ++ drop j bs → j ≡ i + len_utf8 c → IsCharBoundary bs j
boundary_past bs i j c u b e w = rw w (IsCharBoundary-past_char bs (drop j bs) i c b.0 (IsUtf8-drop bs i u b) e)

pub chars_past : (bs : List ℕ) (i j c : ℕ) → IsUtf8 bs → IsCharBoundary bs i → drop i bs ≡ encode_utf8 c ++ drop j bs → j ≡ i + len_utf8 c → chars (take j bs) ≡ chars (take i bs) ++ c ∷ []
chars_past bs i j c u b e w =
    let rest : chars (drop i bs) ≡ c ∷ chars (drop j bs) = chars_past_char (drop i bs) (drop j bs) c (IsUtf8-drop bs i u b) e in
    let split : chars (take j bs) ++ chars (drop j bs) ≡ chars (take i bs) ++ (c ∷ chars (drop j bs)) =
    sym (chars_split bs j u (boundary_past bs i j c u b e w)) ∙ chars_split bs i u b ∙ ap (λ x. chars (take i bs) ++ x) rest in
    append_cancel_right (chars (take j bs)) (chars (take i bs) ++ c ∷ []) (chars (drop j bs)) (split ∙ sym (append_assoc (chars (take i bs)) (c ∷ []) (chars (drop j bs))))

-- no character stands across a place where the text may be cut
not_across : (cs xs : List ℕ) (c : ℕ) (rest more : List ℕ) → encode_utf8_all cs ≡ xs → 0 < length xs → xs ++ more ≡ encode_utf8 c ++ rest → len_utf8 c ≤ length xs
not_across [] xs c rest more s l e = absurd (omega (arith, ap length s))
not_across (d ∷ ds) xs c rest more s l e =
    let same = encode_same d c (encode_utf8_all ds ++ more) rest (sym (append_assoc (encode_utf8 d) (encode_utf8_all ds) more) ∙ ap (λ x. x ++ more) s ∙ e) in
    let n : len_utf8 d ≡ len_utf8 c = ap len_utf8 same.0 in
    omega (arith, n, ap length s, length-append (encode_utf8 d) (encode_utf8_all ds), length-encode d)

pub ends_before : (bs : List ℕ) (i j k c : ℕ) → IsUtf8 bs → IsCharBoundary bs i → IsCharBoundary bs k → i < k → drop i bs ≡ encode_utf8 c ++ drop j bs → j ≡ i + len_utf8 c → j ≤ k
ends_before bs i j k c u b d h e w =
    let between = IsUtf8-between bs i k u (omega arith) b d in
    let xs : List ℕ = take (k - i) (drop i bs) in
    let long : length xs ≡ k - i = omega (arith, length-take (k - i) (drop i bs), length-drop i bs, d.0) in
    let n = not_across between.0 xs c (drop j bs) (drop (k - i) (drop i bs)) between.1.1 (omega arith) (take-append-drop (k - i) (drop i bs) ∙ e) in
    omega arith
