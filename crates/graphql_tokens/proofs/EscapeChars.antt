-- The characters of an escape: ASCII ones that end no line.
use Rattle.std.proofs.Common.{◌≡◌, ℕ, zero, suc, ◌<◌, true, List, [], ◌∷◌, ◌++◌, length, get_or, refl, arith, inl, inr}
use Rattle.std.proofs.lemmas.Bool.Decides.{nat_tests}
use Rattle.std.proofs.lemmas.Str.Ascii.{IsAscii-nil, IsAscii-cons}
use Rattle.std.specs.Char.{is_ascii_hexdigit}
use Rattle.std.specs.List.{AllByRecursion}
use Rattle.std.specs.Str.{IsAscii}
use Rattle.graphql_tokens.specs.tokens.Place.{is_in_line}
use Rattle.graphql_tokens.specs.tokens.Strings.{Escape, quote, backslash, slash, backspace, form_feed, line_feed, carriage_return, tab, AreHexDigits, IsFourDigits}
use Rattle.graphql_tokens.proofs.EscapeUnits.{EscapeMeans}

abbrev pub InLine : ℕ → Type 0
InLine c = (c < 128) × (is_in_line c ≡ true)

abbrev pub AreInLine : List ℕ → Type 0
AreInLine cs = AllByRecursion InLine cs

both_in_line : (xs ys : List ℕ) → AreInLine xs → AreInLine ys → AreInLine (xs ++ ys)
both_in_line [] ys h k = k
both_in_line (x ∷ xs) ys h k = (h.0, both_in_line xs ys h.1 k)

hex_in_line : (ds : List ℕ) → AreHexDigits ds → AreInLine ds
hex_in_line [] h = tt
hex_in_line (d ∷ ds) h = let x : is_ascii_hexdigit d ≡ true = h.0 in ((grind (arith, nat_tests), grind (arith, nat_tests)), hex_in_line ds h.1)

letter_in_line : (e c : ℕ) → Escape e c → InLine e
letter_in_line _ _ quote = (omega arith, refl)
letter_in_line _ _ backslash = (omega arith, refl)
letter_in_line _ _ slash = (omega arith, refl)
letter_in_line _ _ backspace = (omega arith, refl)
letter_in_line _ _ form_feed = (omega arith, refl)
letter_in_line _ _ line_feed = (omega arith, refl)
letter_in_line _ _ carriage_return = (omega arith, refl)
letter_in_line _ _ tab = (omega arith, refl)

four_in_line : (u : List ℕ) (n : ℕ) → IsFourDigits u n → AreInLine u
four_in_line u n w = rw w.1 ((omega arith, refl), ((omega arith, refl), hex_in_line w.0 w.3))

pub escape_in_line : (u : List ℕ) (c : ℕ) → EscapeMeans u c → AreInLine u
escape_in_line u c (inl w) = rw w.1 ((omega arith, refl), (letter_in_line w.0 c w.2, tt))
escape_in_line u c (inr (inl w)) = four_in_line u c w.0
escape_in_line u c (inr (inr (inl w))) =
    rw w.1 ((omega arith, refl), ((omega arith, refl), ((omega arith, refl), both_in_line w.0 (125 ∷ []) (hex_in_line w.0 w.3) ((omega arith, refl), tt))))
escape_in_line u c (inr (inr (inr w))) = rw w.4 (both_in_line w.0 w.1 (four_in_line w.0 w.2 w.5) (four_in_line w.1 w.3 w.6))

pub in_line_at : (xs rest : List ℕ) (k : ℕ) → AreInLine xs → k < length xs → InLine (get_or (xs ++ rest) k 0)
in_line_at [] rest k h l = absurd (omega arith)
in_line_at (x ∷ xs) rest zero h l = h.0
in_line_at (x ∷ xs) rest (suc k) h l = in_line_at xs rest k h.1 (omega arith)

are_ascii : (cs : List ℕ) → AreInLine cs → IsAscii cs
are_ascii [] h = IsAscii-nil
are_ascii (c ∷ cs) h = IsAscii-cons c cs h.0.0 (are_ascii cs h.1)

pub escape_ascii : (u : List ℕ) (c : ℕ) → EscapeMeans u c → IsAscii u
escape_ascii u c m = are_ascii u (escape_in_line u c m)
