-- Where lines begin in the bytes of a text, part after part.
use Rattle.std.proofs.Common.{◌≡◌, ℕ, suc, ◌+◌, ◌-◌, ◌≤◌, ◌<◌, ◌⊎◌, Bool, true, false, cond, not, eqb, ◌&&◌, ◌||◌, List, [], ◌∷◌, ◌++◌, length, map, take, drop, get_or, refl, sym, ap, ap₂, ◌∙◌, subst, arith, inl, inr, append_assoc, length-take, length-drop, add-zero, add-one, zero-add}
use Rattle.std.proofs.Math.Seq.{drop-cons}
use Rattle.std.proofs.lemmas.Bool.{cases_Bool, cases_lt}
use Rattle.std.proofs.lemmas.List.{append-nil, take-append-drop, drop-drop, get_or-drop, get_or-take}
use Rattle.std.proofs.lemmas.List.Elements.{All-nil, All-cons, All-append, recursion_from_All, All-from_get_or}
use Rattle.std.proofs.lemmas.Str.{encode_ascii, inside_one, length-encode, len_utf8_bounds, encodes-chars}
use Rattle.std.specs.Char.{encode_utf8}
use Rattle.std.specs.List.{All}
use Rattle.std.specs.Str.{chars, IsUtf8, encode_utf8_all}
use Rattle.text_edits.specs.declared.Encoding.TheVariants.{Utf8}
use Rattle.text_edits.specs.Indexes.{line_starts, starts_of}
use Rattle.text_edits.specs.Lines.{begins_with_line_feed, ends_line, onto_first_line, lines, is_line_end}
use Rattle.text_edits.specs.Starts.{starts_within, start_after}
use Rattle.text_edits.specs.Units.{width}
use Rattle.text_edits.proofs.Cuts.{Ends, end_ascii}
use Rattle.text_edits.proofs.FirstLines.{InLine, goes_on, lines_some}

-- the start of a line after one byte, if it ends a line
abbrev pub one : Bool → ℕ → List ℕ
one b start = cond b (start ∷ []) []

-- ---- a part in two parts

pub within-append : (start : ℕ) (xs ys rest : List ℕ) → starts_within start (xs ++ ys) rest ≡ starts_within start xs (ys ++ rest) ++ starts_within (start + length xs) ys rest
within-append start [] ys rest = ap (λ n. starts_within n ys rest) (sym (add-zero start))
within-append start (x ∷ xs) ys rest =
    let same : ends_line x ((xs ++ ys) ++ rest) ≡ ends_line x (xs ++ (ys ++ rest)) = ap (ends_line x) (append_assoc xs ys rest) in
    let long : suc start + length xs ≡ start + length (x ∷ xs) = omega arith in
    let more = within-append (suc start) xs ys rest ∙ ap (λ n. starts_within (suc start) xs (ys ++ rest) ++ starts_within n ys rest) long in
    ap₂ (λ (b : Bool) (l : List ℕ). one b (suc start) ++ l) same more
    ∙ sym (append_assoc (one (ends_line x (xs ++ (ys ++ rest))) (suc start)) (starts_within (suc start) xs (ys ++ rest)) (starts_within (start + length (x ∷ xs)) ys rest))

-- the starts before the end of a part, which don't depend on what comes after it
abbrev pub inside : ℕ → List ℕ → List ℕ
inside start [] = []
inside start (b ∷ []) = []
inside start (b ∷ c ∷ bytes) = one (ends_line b (c ∷ bytes)) (suc start) ++ inside (suc start) (c ∷ bytes)

pub within-inside : (start : ℕ) (xs rest : List ℕ) → starts_within start xs rest ≡ inside start xs ++ start_after start xs rest
within-inside start [] rest = refl
within-inside start (x ∷ []) rest = append-nil (one (ends_line x rest) (suc start))
within-inside start (x ∷ y ∷ xs) rest =
    ap (λ (l : List ℕ). one (ends_line x (y ∷ xs)) (suc start) ++ l) (within-inside (suc start) (y ∷ xs) rest)
    ∙ sym (append_assoc (one (ends_line x (y ∷ xs)) (suc start)) (inside (suc start) (y ∷ xs)) (start_after (suc start) (y ∷ xs) rest))

pub after_last : (start : ℕ) (xs rest : List ℕ) → 0 < length xs → start_after start xs rest ≡ one (ends_line (get_or xs (length xs - 1) 0) rest) (start + length xs)
after_last start [] rest l = absurd (omega arith)
after_last start (x ∷ []) rest l = ap (one (ends_line x rest)) (sym (add-one start))
after_last start (x ∷ y ∷ xs) rest l =
    let here : length (x ∷ y ∷ xs) - 1 ≡ suc (length xs) = omega arith in
    let there : length (y ∷ xs) - 1 ≡ length xs = omega arith in
    let long : suc start + length (y ∷ xs) ≡ start + length (x ∷ y ∷ xs) = omega arith in
    after_last (suc start) (y ∷ xs) rest (omega arith)
    ∙ ap₂ (λ (k n : ℕ). one (ends_line (get_or (y ∷ xs) k 0) rest) n) there long
    ∙ ap (λ (k : ℕ). one (ends_line (get_or (x ∷ y ∷ xs) k 0) rest) (start + length (x ∷ y ∷ xs))) (sym here)

pub after_end : (xs rest : List ℕ) → 0 < length xs → ends_line (get_or xs (length xs - 1) 0) rest ≡ true → start_after 0 xs rest ≡ length xs ∷ []
after_end xs rest l e = after_last 0 xs rest l ∙ ap₂ (λ (b : Bool) (n : ℕ). one b n) e (zero-add (length xs))

pub after_other : (xs rest : List ℕ) → 0 < length xs → ends_line (get_or xs (length xs - 1) 0) rest ≡ false → start_after 0 xs rest ≡ []
after_other xs rest l e = after_last 0 xs rest l ∙ ap (λ (b : Bool). one b (0 + length xs)) e

pub after_nothing : (start : ℕ) (xs rest : List ℕ) → length xs ≡ 0 → start_after start xs rest ≡ []
after_nothing start [] rest e = refl
after_nothing start (x ∷ xs) rest e = absurd (omega arith)

-- ---- where they are

one_all : (P : ℕ → Type 0) (b : Bool) (start : ℕ) → P start → All P (one b start)
one_all P true start p = All-cons P start [] p (All-nil P)
one_all P false start p = All-nil P

pub within_above : (low start : ℕ) (xs rest : List ℕ) → low ≤ start → All (λ s. low < s) (starts_within start xs rest)
within_above low start [] rest l = All-nil (λ s. low < s)
within_above low start (x ∷ xs) rest l =
    All-append (λ s. low < s) (one (ends_line x (xs ++ rest)) (suc start)) (starts_within (suc start) xs rest) (one_all (λ s. low < s) (ends_line x (xs ++ rest)) (suc start) (omega arith)) (within_above low (suc start) xs rest (omega arith))

pub within_below : (high start : ℕ) (xs rest : List ℕ) → start + length xs ≤ high → All (λ s. s ≤ high) (starts_within start xs rest)
within_below high start [] rest l = All-nil (λ s. s ≤ high)
within_below high start (x ∷ xs) rest l =
    All-append (λ s. s ≤ high) (one (ends_line x (xs ++ rest)) (suc start)) (starts_within (suc start) xs rest) (one_all (λ s. s ≤ high) (ends_line x (xs ++ rest)) (suc start) (omega arith)) (within_below high (suc start) xs rest (omega arith))

pub inside_below : (high start : ℕ) (xs : List ℕ) → start + length xs ≤ suc high → All (λ s. s ≤ high) (inside start xs)
inside_below high start [] l = All-nil (λ s. s ≤ high)
inside_below high start (x ∷ []) l = All-nil (λ s. s ≤ high)
inside_below high start (x ∷ y ∷ xs) l =
    All-append (λ s. s ≤ high) (one (ends_line x (y ∷ xs)) (suc start)) (inside (suc start) (y ∷ xs)) (one_all (λ s. s ≤ high) (ends_line x (y ∷ xs)) (suc start) (omega arith)) (inside_below high (suc start) (y ∷ xs) (omega arith))

-- a start after a part is at its end
pub after_all : (P : ℕ → Type 0) (start : ℕ) (xs rest : List ℕ) → (0 < length xs → P (start + length xs)) → All P (start_after start xs rest)
after_all P start xs rest p = by (cases_lt 0 (length xs))
  where
    by : (0 < length xs) ⊎ (length xs ≤ 0) → All P (start_after start xs rest)
    by (inl some) = subst (All P) (sym (after_last start xs rest some)) (one_all P (ends_line (get_or xs (length xs - 1) 0) rest) (start + length xs) (p some))
    by (inr none) = subst (All P) (sym (after_nothing start xs rest (omega arith))) (All-nil P)

-- ---- a part at another place

pub within_moved : (from to n : ℕ) (xs rest : List ℕ) → map (λ start. to + (start - from)) (starts_within (from + n) xs rest) ≡ starts_within (to + n) xs rest
within_moved from to n [] rest = refl
within_moved from to n (x ∷ xs) rest =
    let old : suc (from + n) ≡ from + suc n = omega arith in
    let new : to + suc n ≡ suc (to + n) = omega arith in
    let here : to + (suc (from + n) - from) ≡ suc (to + n) = omega arith in
    let more : map (λ start. to + (start - from)) (starts_within (suc (from + n)) xs rest) ≡ starts_within (suc (to + n)) xs rest =
    ap (λ k. map (λ start. to + (start - from)) (starts_within k xs rest)) old ∙ within_moved from to (suc n) xs rest ∙ ap (λ k. starts_within k xs rest) new in
    by (ends_line x (xs ++ rest)) here more
  where
    by : (b : Bool) → to + (suc (from + n) - from) ≡ suc (to + n) → map (λ start. to + (start - from)) (starts_within (suc (from + n)) xs rest) ≡ starts_within (suc (to + n)) xs rest
        → map (λ start. to + (start - from)) (one b (suc (from + n)) ++ starts_within (suc (from + n)) xs rest) ≡ one b (suc (to + n)) ++ starts_within (suc (to + n)) xs rest
    by true here more = ap₂ (λ (k : ℕ) (l : List ℕ). k ∷ l) here more
    by false here more = more

-- ---- bytes that end no line

pub within_skip : (start : ℕ) (xs ys rest : List ℕ) → InLine xs → starts_within start (xs ++ ys) rest ≡ starts_within (start + length xs) ys rest
within_skip start [] ys rest a = ap (λ n. starts_within n ys rest) (sym (add-zero start))
within_skip start (x ∷ xs) ys rest a =
    let long : suc start + length xs ≡ start + length (x ∷ xs) = omega arith in
    ap (λ (b : Bool). one b (suc start) ++ starts_within (suc start) (xs ++ ys) rest) (goes_on x ((xs ++ ys) ++ rest) a.0)
    ∙ within_skip (suc start) xs ys rest a.1 ∙ ap (λ n. starts_within n ys rest) long

in_line : (xs : List ℕ) → ((k : ℕ) → k < length xs → is_line_end (get_or xs k 0) ≡ false) → InLine xs
in_line xs h = recursion_from_All (λ c. is_line_end c ≡ false) xs (All-from_get_or (λ c. is_line_end c ≡ false) xs 0 h)

pub within_none : (start : ℕ) (xs rest : List ℕ) → ((k : ℕ) → k < length xs → is_line_end (get_or xs k 0) ≡ false) → starts_within start xs rest ≡ []
within_none start xs rest h = ap (λ (l : List ℕ). starts_within start l rest) (sym (append-nil xs)) ∙ within_skip start xs [] rest (in_line xs h)

-- up to the first byte that ends a line
pub within_found : (start i : ℕ) (xs rest : List ℕ) → Ends xs i
    → starts_within start xs rest ≡ one (ends_line (get_or xs i 0) (drop (i + 1) xs ++ rest)) (start + (i + 1)) ++ starts_within (start + (i + 1)) (drop (i + 1) xs) rest
within_found start i xs rest e =
    let within : i < length xs = e.within in
    let body : InLine (take i xs) = in_line (take i xs) (λ k l.
    let less : k < i = omega (arith, length-take i xs) in
    ap is_line_end (get_or-take i xs k 0 less) ∙ e.before k less) in
    let cut : drop i xs ≡ get_or xs i 0 ∷ drop (i + 1) xs = rw (add-one i) (drop-cons xs i 0 within) in
    let whole : xs ≡ take i xs ++ (get_or xs i 0 ∷ drop (i + 1) xs) = sym (take-append-drop i xs) ∙ ap (λ (l : List ℕ). take i xs ++ l) cut in
    let long : start + length (take i xs) ≡ start + i = omega (arith, length-take i xs) in
    let next : suc (start + i) ≡ start + (i + 1) = omega arith in
    ap (λ (l : List ℕ). starts_within start l rest) whole
    ∙ within_skip start (take i xs) (get_or xs i 0 ∷ drop (i + 1) xs) rest body
    ∙ ap (λ n. starts_within n (get_or xs i 0 ∷ drop (i + 1) xs) rest) long
    ∙ ap (λ n. one (ends_line (get_or xs i 0) (drop (i + 1) xs ++ rest)) n ++ starts_within n (drop (i + 1) xs) rest) next

-- ---- a loop over line ends

pub record Pushing (start at : ℕ) (part rest init starts : List ℕ) : Type 0 where
  pub within : at ≤ length part
  pub same : init ++ starts_within start part rest ≡ starts ++ starts_within (start + at) (drop at part) rest

pub pushing_start : (start : ℕ) (part rest init : List ℕ) → Pushing start 0 part rest init init
pushing_start start part rest init = record { within = omega arith; same = ap (λ n. init ++ starts_within n part rest) (sym (add-zero start)) }

pub pushing_next : (start at i : ℕ) (part rest init starts more : List ℕ) → Pushing start at part rest init starts → Ends (drop at part) i
    → more ≡ starts ++ one (ends_line (get_or part (at + i) 0) (drop (at + i + 1) part ++ rest)) (start + (at + i + 1)) → Pushing start (at + i + 1) part rest init more
pushing_next start at i part rest init starts more p e is =
    let n : ℕ = at + i + 1 in
    let here : get_or (drop at part) i 0 ≡ get_or part (at + i) 0 = get_or-drop at part i 0 in
    let there : at + (i + 1) ≡ n = omega arith in
    let cut : drop (i + 1) (drop at part) ≡ drop n part = drop-drop (i + 1) at part ∙ ap (λ k. drop k part) there in
    let far : start + at + (i + 1) ≡ start + n = omega arith in
    let step : starts_within (start + at) (drop at part) rest ≡ one (ends_line (get_or part (at + i) 0) (drop n part ++ rest)) (start + n) ++ starts_within (start + n) (drop n part) rest =
    within_found (start + at) i (drop at part) rest e
    ∙ ap (λ (k : ℕ). one (ends_line (get_or (drop at part) i 0) (drop (i + 1) (drop at part) ++ rest)) k ++ starts_within k (drop (i + 1) (drop at part)) rest) far
    ∙ ap₂ (λ (c : ℕ) (l : List ℕ). one (ends_line c (l ++ rest)) (start + n) ++ starts_within (start + n) l rest) here cut in
    let long : i < length (drop at part) = e.within in
    record {
      within = omega (arith, length-drop at part);
      same = p.same ∙ ap (λ (l : List ℕ). starts ++ l) step
          ∙ sym (append_assoc starts (one (ends_line (get_or part (at + i) 0) (drop n part ++ rest)) (start + n)) (starts_within (start + n) (drop n part) rest))
          ∙ ap (λ (l : List ℕ). l ++ starts_within (start + n) (drop n part) rest) (sym is);
    }

pub pushing_last : (start at : ℕ) (part rest init starts : List ℕ) → Pushing start at part rest init starts → ((k : ℕ) → k < length (drop at part) → is_line_end (get_or (drop at part) k 0) ≡ false)
    → starts ≡ init ++ starts_within start part rest
pushing_last start at part rest init starts p none =
    sym (p.same ∙ ap (λ (l : List ℕ). starts ++ l) (within_none (start + at) (drop at part) rest none) ∙ append-nil starts)

-- ---- the bytes of characters

begins_is : (xs : List ℕ) → begins_with_line_feed xs ≡ eqb (get_or xs 0 0) 10
begins_is [] = refl
begins_is (x ∷ xs) = refl

-- what a byte of a character is, if it ends a line
end_in : (c k : ℕ) → k < length (encode_utf8 c) → is_line_end (get_or (encode_utf8 c) k 0) ≡ true → c ≡ get_or (encode_utf8 c) k 0
end_in c k l e = inside_one c [] (encode_utf8 c) k (sym (append-nil (encode_utf8 c))) l (end_ascii (get_or (encode_utf8 c) k 0) e)

other_bytes : (c : ℕ) → is_line_end c ≡ false → InLine (encode_utf8 c)
other_bytes c free = in_line (encode_utf8 c) (λ k l. by k l (cases_Bool (is_line_end (get_or (encode_utf8 c) k 0))))
  where
    by : (k : ℕ) → k < length (encode_utf8 c) → (is_line_end (get_or (encode_utf8 c) k 0) ≡ true) ⊎ (is_line_end (get_or (encode_utf8 c) k 0) ≡ false) → is_line_end (get_or (encode_utf8 c) k 0) ≡ false
    by k l (inl ends) = absurd (bools (sym ends ∙ ap is_line_end (sym (end_in c k l ends)) ∙ free))
      where
        bools : true ≡ false → ⊥
        bools e = absurd cc
    by k l (inr none) = none

begins_encoded : (cs : List ℕ) → begins_with_line_feed (encode_utf8_all cs) ≡ begins_with_line_feed cs
begins_encoded [] = refl
begins_encoded (c ∷ cs) = by (cases_Bool (is_line_end c))
  where
    by : (is_line_end c ≡ true) ⊎ (is_line_end c ≡ false) → begins_with_line_feed (encode_utf8 c ++ encode_utf8_all cs) ≡ eqb c 10
    by (inl ends) = ap (λ (l : List ℕ). begins_with_line_feed (l ++ encode_utf8_all cs)) (encode_ascii c (end_ascii c ends))
    by (inr free) = first (encode_utf8 c) refl (omega (arith, length-encode c, len_utf8_bounds c)) (other_bytes c free)
      where
        not_feed : (x : ℕ) → is_line_end x ≡ false → eqb x 10 ≡ false
        not_feed x e = halves (eqb x 10) (eqb x 13) e
          where
            halves : (a b : Bool) → (a || b) ≡ false → a ≡ false
            halves true b e = absurd cc
            halves false b e = refl

        first : (bytes : List ℕ) → bytes ≡ encode_utf8 c → 1 ≤ length bytes → InLine bytes → begins_with_line_feed (bytes ++ encode_utf8_all cs) ≡ eqb c 10
        first [] same some all = absurd (omega arith)
        first (b ∷ bytes) same some all = not_feed b all.0 ∙ sym (not_feed c free)

tails : (x y : ℕ) (xs ys : List ℕ) → x ∷ xs ≡ y ∷ ys → xs ≡ ys
tails x y xs ys e = cc

-- the starts of lines of characters are those in their bytes
pub encoded_starts : (start : ℕ) (cs : List ℕ) → line_starts start (lines cs) ≡ start ∷ starts_within start (encode_utf8_all cs) []
encoded_starts start [] = refl
encoded_starts start (c ∷ cs) = by (cases_Bool (is_line_end c)) (encoded_starts (start + width Utf8 (c ∷ [])) cs)
  where
    long : start + length (encode_utf8 c) ≡ start + width Utf8 (c ∷ [])
    long = omega (arith, length-encode c)

    -- on the line of what comes after it
    onto : ends_line c cs ≡ false → starts_within start (encode_utf8_all (c ∷ cs)) [] ≡ starts_within (start + width Utf8 (c ∷ [])) (encode_utf8_all cs) []
        → line_starts (start + width Utf8 (c ∷ [])) (lines cs) ≡ (start + width Utf8 (c ∷ [])) ∷ starts_within (start + width Utf8 (c ∷ [])) (encode_utf8_all cs) []
        → line_starts start (lines (c ∷ cs)) ≡ start ∷ starts_within start (encode_utf8_all (c ∷ cs)) []
    onto none bytes ih =
        let some = lines_some cs in
        let w : ℕ = start + width Utf8 (c ∷ []) in
        let rest : line_starts (w + width Utf8 some.first) some.more ≡ starts_within w (encode_utf8_all cs) [] =
        tails w w (line_starts (w + width Utf8 some.first) some.more) (starts_within w (encode_utf8_all cs) []) (sym (ap (line_starts w) some.is) ∙ ih) in
        let wide : start + width Utf8 (c ∷ some.first) ≡ w + width Utf8 some.first = omega arith in
        let here : lines (c ∷ cs) ≡ (c ∷ some.first) ∷ some.more = rw none (ap (onto_first_line c) some.is) in
        ap (line_starts start) here ∙ ap (λ n. start ∷ line_starts n some.more) wide ∙ ap (λ (l : List ℕ). start ∷ l) (rest ∙ sym bytes)

    -- in a line of its own
    alone : ends_line c cs ≡ true → starts_within start (encode_utf8_all (c ∷ cs)) [] ≡ (start + width Utf8 (c ∷ [])) ∷ starts_within (start + width Utf8 (c ∷ [])) (encode_utf8_all cs) []
        → line_starts (start + width Utf8 (c ∷ [])) (lines cs) ≡ (start + width Utf8 (c ∷ [])) ∷ starts_within (start + width Utf8 (c ∷ [])) (encode_utf8_all cs) []
        → line_starts start (lines (c ∷ cs)) ≡ start ∷ starts_within start (encode_utf8_all (c ∷ cs)) []
    alone ends bytes ih =
        let here : lines (c ∷ cs) ≡ (c ∷ []) ∷ lines cs = rw ends refl in
        ap (line_starts start) here ∙ ap (λ (l : List ℕ). start ∷ l) (ih ∙ sym bytes)

    by : (is_line_end c ≡ true) ⊎ (is_line_end c ≡ false) → line_starts (start + width Utf8 (c ∷ [])) (lines cs) ≡ (start + width Utf8 (c ∷ [])) ∷ starts_within (start + width Utf8 (c ∷ [])) (encode_utf8_all cs) []
        → line_starts start (lines (c ∷ cs)) ≡ start ∷ starts_within start (encode_utf8_all (c ∷ cs)) []
    by (inr free) ih =
        onto (goes_on c cs free)
        (within_skip start (encode_utf8 c) (encode_utf8_all cs) [] (other_bytes c free) ∙ ap (λ n. starts_within n (encode_utf8_all cs) []) long) ih
    by (inl ends) ih =
        let e : encode_utf8 c ≡ c ∷ [] = encode_ascii c (end_ascii c ends) in
        let after : begins_with_line_feed (encode_utf8_all cs ++ []) ≡ begins_with_line_feed cs = ap begins_with_line_feed (append-nil (encode_utf8_all cs)) ∙ begins_encoded cs in
        let same : ends_line c (encode_utf8_all cs ++ []) ≡ ends_line c cs = ap (λ (b : Bool). eqb c 10 || (eqb c 13 && not b)) after in
        let next : suc start ≡ start + width Utf8 (c ∷ []) = omega (arith, length-encode c, ap length e) in
        let bytes : starts_within start (encode_utf8_all (c ∷ cs)) [] ≡ one (ends_line c cs) (start + width Utf8 (c ∷ [])) ++ starts_within (start + width Utf8 (c ∷ [])) (encode_utf8_all cs) [] =
        ap (λ (l : List ℕ). starts_within start (l ++ encode_utf8_all cs) []) e
        ∙ ap₂ (λ (b : Bool) (n : ℕ). one b n ++ starts_within n (encode_utf8_all cs) []) same next in
        test (cases_Bool (ends_line c cs)) bytes
      where
        test : (ends_line c cs ≡ true) ⊎ (ends_line c cs ≡ false)
            → starts_within start (encode_utf8_all (c ∷ cs)) [] ≡ one (ends_line c cs) (start + width Utf8 (c ∷ [])) ++ starts_within (start + width Utf8 (c ∷ [])) (encode_utf8_all cs) []
            → line_starts start (lines (c ∷ cs)) ≡ start ∷ starts_within start (encode_utf8_all (c ∷ cs)) []
        test (inl t) bytes = alone t (bytes ∙ ap (λ (b : Bool). one b (start + width Utf8 (c ∷ [])) ++ starts_within (start + width Utf8 (c ∷ [])) (encode_utf8_all cs) []) t) ih
        test (inr f) bytes = onto f (bytes ∙ ap (λ (b : Bool). one b (start + width Utf8 (c ∷ [])) ++ starts_within (start + width Utf8 (c ∷ [])) (encode_utf8_all cs) []) f) ih

pub text_starts : (text : List ℕ) → IsUtf8 text → starts_of text ≡ 0 ∷ starts_within 0 text []
text_starts text u = encoded_starts 0 (chars text) ∙ ap (λ (l : List ℕ). 0 ∷ starts_within 0 l []) (encodes-chars text u)
