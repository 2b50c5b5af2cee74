-- Where lines begin in a text: at its beginning, and after the line feeds that are counted in its bytes.
use Rattle.std.proofs.Common.{take, drop, subst, ◌^◌, ◌≡◌, ℕ, suc, ◌+◌, ◌≤◌, ◌<◌, cond, false, ◌⊎◌, List, [], ◌∷◌, ◌++◌, length, get_or, refl, sym, ap, ◌∙◌, inl, inr, arith}
use Rattle.std.proofs.lemmas.Bool.{cases_lt}
use Rattle.std.proofs.lemmas.Bool.Decides.{nat_tests}
use Rattle.std.proofs.lemmas.List.{append-nil, take-append-drop, take-take}
use Rattle.std.proofs.lemmas.List.Sums.{sum_by-append, sum_by-cons}
use Rattle.std.proofs.lemmas.Str.{chars-nil, chars-append, encode_ascii, IsCharBoundary-start, encodes-chars, inside_one, IsUtf8-take, IsUtf8-drop}
use Rattle.std.specs.Char.{encode_utf8}
use Rattle.std.specs.List.{count_by}
use Rattle.std.specs.Str.{chars, IsAscii, IsCharBoundary, IsUtf8, encode_utf8_all}
use Rattle.graphql_tokens.specs.declared.pos.Pos.{Pos}
use Rattle.graphql_tokens.specs.tokens.Place.{is_in_line, is_line_feed, place, place_after}
use Rattle.graphql_tokens.proofs.Places.{column_push, line_bound}
use Rattle.graphql_tokens.proofs.Chars.{length-chars}
use Rattle.graphql_report.specs.reports.Rests.{BeginsAt}
use Rattle.graphql_report.proofs.Buffers.{last-char}

pub begins-at-top : (text : List ℕ) → IsUtf8 text → BeginsAt text (record { offset = 0; line = 1 })
begins-at-top text u = (IsCharBoundary-start text u, ap place_after chars-nil)

not_feed : (c : ℕ) → 128 ≤ c → is_line_feed c ≡ false
not_feed c h = grind (arith, nat_tests)

none_from : (xs : List ℕ) → ((k : ℕ) → k < length xs → 128 ≤ get_or xs k 0) → count_by is_line_feed xs ≡ 0
none_from [] h = refl
none_from (x ∷ xs) h = omega (arith, sum_by-cons (λ c. cond (is_line_feed c) 1 0) x xs, ap {B = ℕ} (λ b. cond b 1 0) (not_feed x (h 0 (omega arith))), none_from xs (λ k l. h (suc k) (omega arith)))

none_in : (c : ℕ) → 128 ≤ c → count_by is_line_feed (encode_utf8 c) ≡ 0
none_in c h = none_from (encode_utf8 c) (λ k l. by k l (cases_lt (get_or (encode_utf8 c) k 0) 128))
  where
    by : (k : ℕ) → k < length (encode_utf8 c) → (get_or (encode_utf8 c) k 0 < 128) ⊎ (128 ≤ get_or (encode_utf8 c) k 0) → 128 ≤ get_or (encode_utf8 c) k 0
    by k l (inl low) = let e : c ≡ get_or (encode_utf8 c) k 0 = inside_one c [] (encode_utf8 c) k (sym (append-nil (encode_utf8 c))) l low in absurd (omega arith)
    by k l (inr g) = g

of_one : (c : ℕ) → count_by is_line_feed (encode_utf8 c) ≡ cond (is_line_feed c) 1 0
of_one c = by (cases_lt c 128)
  where
    by : (c < 128) ⊎ (128 ≤ c) → count_by is_line_feed (encode_utf8 c) ≡ cond (is_line_feed c) 1 0
    by (inl l) = ap (λ (x : List ℕ). count_by is_line_feed x) (encode_ascii c l) ∙ sum_by-cons (λ x. cond (is_line_feed x) 1 0) c [] ∙ omega arith
    by (inr g) = none_in c g ∙ sym (ap {B = ℕ} (λ b. cond b 1 0) (not_feed c g))

of_all : (cs : List ℕ) → count_by is_line_feed (encode_utf8_all cs) ≡ count_by is_line_feed cs
of_all [] = refl
of_all (c ∷ cs) = omega (arith, sum_by-append (λ x. cond (is_line_feed x) 1 0) (encode_utf8 c) (encode_utf8_all cs), of_one c, of_all cs, sum_by-cons (λ x. cond (is_line_feed x) 1 0) c cs)

feeds-chars : (bs : List ℕ) → IsUtf8 bs → count_by is_line_feed bs ≡ count_by is_line_feed (chars bs)
feeds-chars bs u = sym (ap (λ (x : List ℕ). count_by is_line_feed x) (encodes-chars bs u)) ∙ of_all (chars bs)

line-later : (before passed : List ℕ) → IsUtf8 before → IsUtf8 passed → (place_after (chars (before ++ passed))).line ≡ (place_after (chars before)).line + count_by is_line_feed passed
line-later before passed u v = ap (λ (x : List ℕ). (place_after x).line) (chars-append before passed u) ∙ omega (arith, sum_by-append (λ x. cond (is_line_feed x) 1 0) (chars before) (chars passed), feeds-chars passed v)

-- a text that ends in a line feed or a carriage return
pub column-first : (text front : List ℕ) (c : ℕ) → IsAscii (c ∷ []) → is_in_line c ≡ false → IsUtf8 text → text ≡ front ++ c ∷ [] → (place_after (chars text)).column ≡ 1
column-first text front c ascii ends utf8 is =
    ap (λ (x : List ℕ). (place_after x).column) (last-char text front c ascii utf8 is) ∙ column_push (chars front) c ∙ ap {B = ℕ} (λ b. cond b ((place_after (chars front)).column + 1) 1) ends

-- from a line on, whose number is known, over a part of a text that ends in a line feed
pub record Passes (text front passed : List ℕ) (from offset first : ℕ) : Type 0 where
  pub utf8 : IsUtf8 text
  pub front_is : front ≡ take offset text
  pub boundary : IsCharBoundary text offset
  pub passed_is : passed ≡ drop from front
  pub inner : IsCharBoundary front from
  pub within : from ≤ offset
  pub known : ◌≡◌ {A = Pos} (place text from) (record { line = first; column = 1 })

front-utf8 : {text front passed : List ℕ} {from offset first : ℕ} → Passes text front passed from offset first → IsUtf8 front
front-utf8 {text} {front} {passed} {from} {offset} {first} p = subst IsUtf8 (sym p.front_is) (IsUtf8-take text offset p.utf8 p.boundary)

pub line-there : (text front passed : List ℕ) (from offset first : ℕ) → Passes text front passed from offset first → (place_after (chars front)).line ≡ first + count_by is_line_feed passed
line-there text front passed from offset first p =
    let u = front-utf8 p in
    let before : take from front ≡ take from text = ap (take from) p.front_is ∙ take-take from offset text p.within in
    let whole : take from front ++ drop from front ≡ front = take-append-drop from front in
    let line : (place_after (chars front)).line ≡ (place_after (chars (take from front))).line + count_by is_line_feed (drop from front) =
    ap (λ (x : List ℕ). (place_after (chars x)).line) (sym whole) ∙ line-later (take from front) (drop from front) (IsUtf8-take front from u p.inner) (IsUtf8-drop front from u p.inner) in
    let at : (place_after (chars (take from front))).line ≡ first = ap (λ (x : List ℕ). (place_after (chars x)).line) before ∙ ap (λ (q : Pos). q.line) p.known in
    let feeds : count_by is_line_feed (drop from front) ≡ count_by is_line_feed passed = ap (λ (x : List ℕ). count_by is_line_feed x) (sym p.passed_is) in
    omega (arith, line, at, feeds)

pub line-fits : (text front passed : List ℕ) (from offset first feeds : ℕ) → Passes text front passed from offset first → feeds ≡ count_by is_line_feed passed → length front < 2 ^ 63 → first + feeds < 2 ^ 64
line-fits text front passed from offset first feeds p is short =
    omega (arith, line-there text front passed from offset first p, is, line_bound (chars front), length-chars front (front-utf8 p), short)

pub begins-there : (text front passed : List ℕ) (from offset first feeds : ℕ) → Passes text front passed from offset first → feeds ≡ count_by is_line_feed passed → (place_after (chars front)).column ≡ 1
    → ◌≡◌ {A = Pos} (place text offset) (record { line = first + feeds; column = 1 })
begins-there text front passed from offset first feeds p is last =
    let line : (place_after (chars front)).line ≡ first + feeds = omega (arith, line-there text front passed from offset first p, is) in
    ap (λ (x : List ℕ). place_after (chars x)) (sym p.front_is)
    ∙ ap {B = Pos} (λ n. record { line = n; column = (place_after (chars front)).column }) line
    ∙ ap {B = Pos} (λ n. record { line = first + feeds; column = n }) last
