-- How many units characters take, and how many characters fit in so many units.
use Rattle.std.proofs.Common.{◌≡◌, ℕ, ◌+◌, ◌-◌, ◌<◌, ◌≤◌, ◌⊎◌, Bool, true, false, cond, ltb, List, [], ◌∷◌, ◌++◌, length, refl, ap, ◌∙◌, arith, inl, inr, length-append}
use Rattle.std.proofs.lemmas.Bool.{cases_lt, lt-ltb, le-ltb}
use Rattle.std.proofs.lemmas.Bool.Decides.{nat_tests}
use Rattle.std.proofs.lemmas.Str.{length-encode, len_utf8_bounds, encodes-chars}
use Rattle.std.specs.Char.{encode_utf8, len_utf8}
use Rattle.std.specs.Str.{chars, IsUtf8, encode_utf8_all}
use Rattle.text_edits.specs.declared.Encoding.{Encoding}
use Rattle.text_edits.specs.declared.Encoding.TheVariants.{Utf8, Utf16, Utf32}
use Rattle.text_edits.specs.Units.{units, width, fitting}

two_units : (b : Bool) → (1 ≤ cond b 1 2) × (cond b 1 2 ≤ 2)
two_units true = (omega arith, omega arith)
two_units false = (omega arith, omega arith)

pub units_some : (encoding : Encoding) (c : ℕ) → 1 ≤ units encoding c
units_some Utf8 c = (len_utf8_bounds c).0
units_some Utf16 c = (two_units (ltb c 0x1_0000)).0
units_some Utf32 c = omega arith

low_or_pair : (c : ℕ) → (c < 0x1_0000) ⊎ (0x1_0000 ≤ c) → units Utf16 c ≤ len_utf8 c
low_or_pair c (inl low) =
    let e : units Utf16 c ≡ 1 = ap (λ b. cond b 1 2) (lt-ltb c 0x1_0000 low) in
    omega (arith, e, len_utf8_bounds c)
low_or_pair c (inr high) = grind (arith, nat_tests)

pub units_le : (encoding : Encoding) (c : ℕ) → units encoding c ≤ len_utf8 c
units_le Utf8 c = omega arith
units_le Utf16 c = low_or_pair c (cases_lt c 0x1_0000)
units_le Utf32 c = (len_utf8_bounds c).0

pub width_le : (encoding : Encoding) (cs : List ℕ) → width encoding cs ≤ width Utf8 cs
width_le encoding [] = omega arith
width_le encoding (c ∷ cs) = omega (arith, units_le encoding c, width_le encoding cs)

pub width-append : (encoding : Encoding) (xs ys : List ℕ) → width encoding (xs ++ ys) ≡ width encoding xs + width encoding ys
width-append encoding [] ys = omega arith
width-append encoding (x ∷ xs) ys = omega (arith, width-append encoding xs ys)

pub width_encodes : (cs : List ℕ) → width Utf8 cs ≡ length (encode_utf8_all cs)
width_encodes [] = refl
width_encodes (c ∷ cs) = omega (arith, width_encodes cs, length-append (encode_utf8 c) (encode_utf8_all cs), length-encode c)

-- the characters of a text take as many bytes as it has
pub width-chars : (bs : List ℕ) → IsUtf8 bs → width Utf8 (chars bs) ≡ length bs
width-chars bs u = width_encodes (chars bs) ∙ ap length (encodes-chars bs u)

-- ---- what fits

pub fitting_none : (encoding : Encoding) (n c : ℕ) (cs : List ℕ) → n < units encoding c → fitting encoding n (c ∷ cs) ≡ []
fitting_none encoding n c cs l = rw (lt-ltb n (units encoding c) l) refl

pub fitting_some : (encoding : Encoding) (n c : ℕ) (cs : List ℕ) → units encoding c ≤ n → fitting encoding n (c ∷ cs) ≡ c ∷ fitting encoding (n - units encoding c) cs
fitting_some encoding n c cs l = rw (le-ltb n (units encoding c) l) refl

-- nothing fits in no units
pub fitting_zero : (encoding : Encoding) (cs : List ℕ) → fitting encoding 0 cs ≡ []
fitting_zero encoding [] = refl
fitting_zero encoding (c ∷ cs) = fitting_none encoding 0 c cs (units_some encoding c)

-- what fits in the units of a front is the front
pub fitting_front : (encoding : Encoding) (front rest : List ℕ) → fitting encoding (width encoding front) (front ++ rest) ≡ front
fitting_front encoding [] rest = fitting_zero encoding rest
fitting_front encoding (c ∷ front) rest =
    let less : units encoding c + width encoding front - units encoding c ≡ width encoding front = omega arith in
    fitting_some encoding (units encoding c + width encoding front) c (front ++ rest) (omega arith)
    ∙ ap (λ n. c ∷ fitting encoding n (front ++ rest)) less ∙ ap (λ (l : List ℕ). c ∷ l) (fitting_front encoding front rest)

-- all of what is no longer fits
pub fitting_all : (encoding : Encoding) (n : ℕ) (cs : List ℕ) → width encoding cs ≤ n → fitting encoding n cs ≡ cs
fitting_all encoding n [] l = refl
fitting_all encoding n (c ∷ cs) l =
    fitting_some encoding n c cs (omega arith) ∙ ap (λ (xs : List ℕ). c ∷ xs) (fitting_all encoding (n - units encoding c) cs (omega arith))

-- what fits is a front, and takes no more units
pub record Fits (encoding : Encoding) (n : ℕ) (cs : List ℕ) : Type 0 where
  pub rest : List ℕ
  pub whole : cs ≡ fitting encoding n cs ++ rest
  pub within : width encoding (fitting encoding n cs) ≤ n

pub fits : (encoding : Encoding) (n : ℕ) (cs : List ℕ) → Fits encoding n cs
fits encoding n [] = record { rest = []; whole = refl; within = omega arith }
fits encoding n (c ∷ cs) = by (cases_lt n (units encoding c)) (fits encoding (n - units encoding c) cs)
  where
    by : (n < units encoding c) ⊎ (units encoding c ≤ n) → Fits encoding (n - units encoding c) cs → Fits encoding n (c ∷ cs)
    by (inl less) f = record {
      rest = c ∷ cs;
      whole = rw (fitting_none encoding n c cs less) refl;
      within = rw (fitting_none encoding n c cs less) (omega arith);
    }
    by (inr more) f = record {
      rest = f.rest;
      whole = rw (fitting_some encoding n c cs more) (ap (λ (xs : List ℕ). c ∷ xs) f.whole);
      within = rw (fitting_some encoding n c cs more) (omega (arith, f.within));
    }

-- what fits takes no more units of another encoding than all take bytes
pub width_fitting_le : (encoding to : Encoding) (n : ℕ) (cs : List ℕ) → width to (fitting encoding n cs) ≤ width Utf8 cs
width_fitting_le encoding to n cs =
    let f = fits encoding n cs in
    omega (arith, width_le to (fitting encoding n cs), ap (width Utf8) f.whole, width-append Utf8 (fitting encoding n cs) f.rest)

-- ---- a loop over characters that counts what fits

pub counted_step : (from to : Encoding) (n c counted total : ℕ) (cs rest : List ℕ) → cs ≡ c ∷ rest → units from c ≤ n → counted + width to (fitting from n cs) ≡ total
    → (counted + units to c) + width to (fitting from (n - units from c) rest) ≡ total
counted_step from to n c counted total cs rest e l h =
    let f : width to (fitting from n cs) ≡ units to c + width to (fitting from (n - units from c) rest) =
    ap (λ (xs : List ℕ). width to (fitting from n xs)) e ∙ ap (width to) (fitting_some from n c rest l) in
    omega arith

pub counted_stop : (from to : Encoding) (n c counted total : ℕ) (cs rest : List ℕ) → cs ≡ c ∷ rest → n < units from c → counted + width to (fitting from n cs) ≡ total → counted ≡ total
counted_stop from to n c counted total cs rest e l h =
    let f : width to (fitting from n cs) ≡ 0 = ap (λ (xs : List ℕ). width to (fitting from n xs)) e ∙ ap (width to) (fitting_none from n c rest l) in
    omega arith

pub counted_end : (from to : Encoding) (n counted total : ℕ) (cs : List ℕ) → cs ≡ [] → counted + width to (fitting from n cs) ≡ total → counted ≡ total
counted_end from to n counted total cs e h =
    let f : width to (fitting from n cs) ≡ 0 = ap (λ (xs : List ℕ). width to (fitting from n xs)) e in
    omega arith
