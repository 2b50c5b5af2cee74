-- What the spelling of a proper token is made of.
use Rattle.std.proofs.Common.{◌≡◌, ℕ, ◌+◌, ◌-◌, ◌<◌, Bool, true, false, ◌&&◌, List, [], ◌∷◌, ◌++◌, length, take, get_or, replicate, nat_lt, inl, inr, refl, sym, ap, ap₂, ◌∙◌, subst, append_assoc, length-append, arith}
use Rattle.std.proofs.Math.ListN.{get_or-append}
use Rattle.std.proofs.Math.Seq.{take-append_seam}
use Rattle.std.proofs.lemmas.Bool.Decides.{nat_tests}
use Rattle.std.proofs.lemmas.List.{length-replicate, get_or-replicate}
use Rattle.std.proofs.lemmas.Str.{encodes-append, IsCharBoundary-after_ascii}
use Rattle.std.specs.Char.{is_ascii_digit}
use Rattle.std.specs.List.{concat}
use Rattle.std.specs.Str.{encode_utf8_all, IsUtf8, IsCharBoundary}
use lib.Utf8.{encode}
use Rattle.graphql_tokens.specs.tokens.Numbers.{AllDigits, AreDigits, is_minus, is_sign, is_e, IsOptional, IsWhole, IsFraction, IsExponent, IsNumber}
use Rattle.graphql_tokens.specs.tokens.Proper.{IsProper, IsProperBare, Spells}
use Rattle.graphql_tokens.specs.tokens.Token.{Token}
use Rattle.graphql_tokens.specs.declared.lexer.TokenKind.{TokenKind}
use Rattle.graphql_tokens.specs.declared.lexer.TokenKind.TheVariants as kinds
use Rattle.graphql_tokens.specs.tokens.Kinds.{is_number, is_string, is_block}
use Rattle.graphql_reading.specs.reading.Spelled.{IsQuoted}
use Rattle.graphql_reading.proofs.TokenTests.{are-ascii, ascii-bytes}

-- ---- numbers are of characters below 128, so their characters are their bytes

ascii-append : (v w : List ℕ) → are-ascii v ≡ true → are-ascii w ≡ true → are-ascii (v ++ w) ≡ true
ascii-append [] w h k = k
ascii-append (c ∷ v) w h k = both (nat_lt c 128) h (λ e. ascii-append v w e k)
  where
    both : (a : Bool) → (a && are-ascii v) ≡ true → (are-ascii v ≡ true → are-ascii (v ++ w) ≡ true) → (a && are-ascii (v ++ w)) ≡ true
    both true e f = f e
    both false e f = absurd cc

ascii-digit : (c : ℕ) → is_ascii_digit c ≡ true → nat_lt c 128 ≡ true
ascii-digit c h = grind (arith, nat_tests)

ascii-sign : (c : ℕ) → is_sign c ≡ true → nat_lt c 128 ≡ true
ascii-sign c h = grind (arith, nat_tests)

ascii-minus : (c : ℕ) → is_minus c ≡ true → nat_lt c 128 ≡ true
ascii-minus c h = grind (arith, nat_tests)

ascii-e : (c : ℕ) → is_e c ≡ true → nat_lt c 128 ≡ true
ascii-e c h = grind (arith, nat_tests)

ascii-front : (c : ℕ) (w : List ℕ) → nat_lt c 128 ≡ true → are-ascii w ≡ true → are-ascii (c ∷ w) ≡ true
ascii-front c w h k = rw (h, k) refl

ascii-digits : (w : List ℕ) → AllDigits w → are-ascii w ≡ true
ascii-digits [] h = refl
ascii-digits (c ∷ w) h = ascii-front c w (ascii-digit c h.0) (ascii-digits w h.1)

ascii-some-digits : (w : List ℕ) → AreDigits w → are-ascii w ≡ true
ascii-some-digits [] h = absurd h
ascii-some-digits (c ∷ w) h = ascii-front c w (ascii-digit c h.0) (ascii-digits w h.1)

ascii-optional : (p : ℕ → Bool) (w : List ℕ) → ((c : ℕ) → p c ≡ true → nat_lt c 128 ≡ true) → IsOptional p w → are-ascii w ≡ true
ascii-optional p w h (inl e) = subst (λ (w : List ℕ). are-ascii w ≡ true) (sym e) refl
ascii-optional p w h (inr m) = subst (λ (w : List ℕ). are-ascii w ≡ true) (sym m.2) (ascii-front m.0 [] (h m.0 m.1) refl)

ascii-whole : (w : List ℕ) → IsWhole w → are-ascii w ≡ true
ascii-whole [] h = absurd h
ascii-whole (c ∷ w) (inl h) = let low : nat_lt c 128 ≡ true = rw h.0 refl in ascii-front c w low (rw h.1 refl)
ascii-whole (c ∷ w) (inr h) = ascii-front c w (ascii-digit c h.1) (ascii-digits w h.2)

ascii-fraction : (w : List ℕ) → IsFraction w → are-ascii w ≡ true
ascii-fraction [] h = refl
ascii-fraction (c ∷ w) h = let low : nat_lt c 128 ≡ true = rw h.0 refl in ascii-front c w low (ascii-some-digits w h.1)

ascii-exponent : (w : List ℕ) → IsExponent w → are-ascii w ≡ true
ascii-exponent [] h = refl
ascii-exponent (c ∷ w) h = ascii-front c w (ascii-e c h.0) (subst (λ (w : List ℕ). are-ascii w ≡ true) (sym h.1.2) (ascii-append h.1.0 h.1.1 (ascii-optional is_sign h.1.0 ascii-sign h.1.3) (ascii-some-digits h.1.1 h.1.4)))

ascii-number : (w : List ℕ) → IsNumber w → are-ascii w ≡ true
ascii-number w h =
    subst (λ (w : List ℕ). are-ascii w ≡ true) (sym h.4) (ascii-append h.0 (h.1 ++ (h.2 ++ h.3)) (ascii-optional is_minus h.0 ascii-minus h.5) (ascii-append h.1 (h.2 ++ h.3) (ascii-whole h.1 h.6) (ascii-append h.2 h.3 (ascii-fraction h.2 h.7) (ascii-exponent h.3 h.8))))

number-bytes : (bytes : List ℕ) → Spells kinds.Number bytes → IsNumber bytes
number-bytes bytes h = subst IsNumber (sym (h.2 ∙ ascii-bytes h.0 (ascii-number h.0 h.3))) h.3

as-number : (kind : TokenKind) (bytes : List ℕ) → is_number kind ≡ true → IsProperBare kind bytes → Spells kinds.Number bytes
as-number kinds.Number bytes e h = h
as-number kind bytes e h = absurd cc

pub proper-number : (t : Token) → is_number t.bare.kind ≡ true → IsProper t → IsNumber t.bare.spelling
proper-number t e h = number-bytes t.bare.spelling (as-number t.bare.kind t.bare.spelling e h)

-- ---- strings and block strings have their quotes

as-string : (kind : TokenKind) (bytes : List ℕ) → is_string kind ≡ true → IsProperBare kind bytes → Spells kinds.String bytes
as-string kinds.String bytes e h = h
as-string kind bytes e h = absurd cc

as-block : (kind : TokenKind) (bytes : List ℕ) → is_block kind ≡ true → IsProperBare kind bytes → Spells kinds.Block bytes
as-block kinds.Block bytes e h = h
as-block kind bytes e h = absurd cc

string-bytes : (bytes : List ℕ) → Spells kinds.String bytes → IsQuoted 1 bytes
unfolding encode
string-bytes bytes h = (encode_utf8_all h.3.0, h.2 ∙ ap encode_utf8_all h.3.1 ∙ ap (λ (l : List ℕ). 34 ∷ l) (encodes-append h.3.0 (34 ∷ [])))

block-bytes : (bytes : List ℕ) → Spells kinds.Block bytes → IsQuoted 3 bytes
unfolding encode
block-bytes bytes h = (encode_utf8_all (concat h.3.0), h.2 ∙ ap encode_utf8_all h.3.1 ∙ ap (λ (l : List ℕ). 34 ∷ 34 ∷ 34 ∷ l) (encodes-append (concat h.3.0) (34 ∷ 34 ∷ 34 ∷ [])))

pub proper-string : (t : Token) → is_string t.bare.kind ≡ true → IsProper t → IsQuoted 1 t.bare.spelling
proper-string t e h = string-bytes t.bare.spelling (as-string t.bare.kind t.bare.spelling e h)

pub proper-block : (t : Token) → is_block t.bare.kind ≡ true → IsProper t → IsQuoted 3 t.bare.spelling
proper-block t e h = block-bytes t.bare.spelling (as-block t.bare.kind t.bare.spelling e h)

-- a character begins after the first quotes
pub after-quotes : (quotes : ℕ) (text : List ℕ) → IsQuoted quotes text → IsUtf8 (take (length text - quotes) text) → 0 < quotes → IsCharBoundary (take (length text - quotes) text) quotes
after-quotes quotes text q utf8 some =
    let marks : List ℕ = replicate quotes 34 in
    let before : List ℕ = marks ++ q.0 in
    let split : text ≡ before ++ marks = q.1 ∙ sym (append_assoc marks q.0 marks) in
    let many : length marks ≡ quotes = length-replicate {A = ℕ} quotes 34 in
    let size : length text ≡ length before + quotes = ap length split ∙ length-append before marks ∙ ap (λ (n : ℕ). length before + n) many in
    let left : length text - quotes ≡ length before = omega (arith, size) in
    let front : take (length text - quotes) text ≡ before = ap₂ (λ (n : ℕ) (l : List ℕ). take n l) left split ∙ take-append_seam before marks in
    let long : length before ≡ quotes + length q.0 = length-append marks q.0 ∙ ap (λ (n : ℕ). n + length q.0) many in
    let within : quotes - 1 < length marks = omega (arith, many, some) in
    let last : get_or before (quotes - 1) 0 ≡ 34 = get_or-append marks q.0 0 (quotes - 1) within ∙ get_or-replicate quotes (quotes - 1) 34 0 (omega (arith, some)) in
    let same : (quotes - 1) + 1 ≡ quotes = omega (arith, some) in
    let low : get_or before (quotes - 1) 0 < 128 = omega (arith, last) in
    let here : IsCharBoundary before ((quotes - 1) + 1) = IsCharBoundary-after_ascii before (quotes - 1) (subst IsUtf8 front utf8) (omega (arith, long, some)) low in
    subst (λ (l : List ℕ). IsCharBoundary l quotes) (sym front) (subst (λ (n : ℕ). IsCharBoundary before n) same here)
