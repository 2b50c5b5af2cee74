-- The value of a block string, in characters and in bytes.
use Rattle.std.proofs.Common.{◌≡◌, ℕ, zero, suc, ◌+◌, ◌≤◌, ◌<◌, Bool, true, false, cond, eqb, ◌&&◌, ◌⊎◌, List, [], ◌∷◌, ◌++◌, map, length, drop, get_or, refl, sym, ap, ◌∙◌, subst, inl, inr, arith}
use Rattle.std.proofs.lemmas.Bool.{cases_lt}
use Rattle.std.proofs.lemmas.Bool.Decides.{nat_tests}
use Rattle.std.proofs.lemmas.List.{append-nil}
use Rattle.std.proofs.lemmas.Str.{encode_ascii, encodes-append, encodes-chars, encodes_same, inside_one, length-encode, len_utf8_bounds}
use Rattle.std.specs.Char.{encode_utf8}
use Rattle.std.specs.List.{AllByRecursion}
use Rattle.std.specs.Str.{chars, IsUtf8, encode_utf8_all}
use Rattle.graphql_tokens.specs.tokens.BlockText.{begins_quotes, unquoted, lines_of, onto_line, is_blank_char, is_blank, indent, dedent, from_text, to_text, joined, block_value}
use Rattle.graphql_tokens.proofs.EscapeUnits.{both}
use Rattle.graphql_tokens.proofs.BlockLines.{lines_some}
use Rattle.graphql_tokens.proofs.BlockValue.{Keeps, keeps_value, quotes_at, begins_is, not_slash, unquoted_no, unquoted_yes}

-- ---- bytes of a character past ASCII

abbrev AreHigh : List ℕ → Type 0
AreHigh xs = AllByRecursion (λ b. 128 ≤ b) xs

high_from : (xs : List ℕ) → ((k : ℕ) → k < length xs → 128 ≤ get_or xs k 0) → AreHigh xs
high_from [] h = tt
high_from (x ∷ xs) h = (h 0 (omega arith), high_from xs (λ k l. h (suc k) (omega arith)))

high_bytes : (c : ℕ) → 128 ≤ c → AreHigh (encode_utf8 c)
high_bytes c h = high_from (encode_utf8 c) (λ k l. by k l (cases_lt (get_or (encode_utf8 c) k 0) 128))
  where
    by : (k : ℕ) → k < length (encode_utf8 c) → (get_or (encode_utf8 c) k 0 < 128) ⊎ (128 ≤ get_or (encode_utf8 c) k 0) → 128 ≤ get_or (encode_utf8 c) k 0
    by k l (inl low) = let e : c ≡ get_or (encode_utf8 c) k 0 = inside_one c [] (encode_utf8 c) k (sym (append-nil (encode_utf8 c))) l low in absurd (omega arith)
    by k l (inr g) = g

-- the bytes of a character: itself, or one byte and more past ASCII
record Bytes (c : ℕ) : Type 0 where
  first : ℕ
  rest : List ℕ
  whole : encode_utf8 c ≡ first ∷ rest
  high_first : 128 ≤ first
  high : AreHigh (first ∷ rest)

bytes_of : (c : ℕ) → 128 ≤ c → Bytes c
bytes_of c h = by (encode_utf8 c) refl (high_bytes c h) (omega (arith, length-encode c, len_utf8_bounds c))
  where
    by : (xs : List ℕ) → encode_utf8 c ≡ xs → AreHigh (encode_utf8 c) → 1 ≤ length (encode_utf8 c) → Bytes c
    by [] e k l = absurd (omega (arith, ap length e))
    by (x ∷ xs) e k l = let m = subst AreHigh e k in record { first = x; rest = xs; whole = e; high_first = m.0; high = m }

low_all : (c : ℕ) (cs : List ℕ) → c < 128 → encode_utf8_all (c ∷ cs) ≡ c ∷ encode_utf8_all cs
low_all c cs h = ap (λ x. x ++ encode_utf8_all cs) (encode_ascii c h)

-- ---- blanks

high_not_blank : (c : ℕ) → 128 ≤ c → is_blank_char c ≡ false
high_not_blank c h = grind (arith, nat_tests)

encode_blank : (cs : List ℕ) → is_blank (encode_utf8_all cs) ≡ is_blank cs
encode_blank [] = refl
encode_blank (c ∷ cs) = by (cases_lt c 128) (encode_blank cs)
  where
    by : (c < 128) ⊎ (128 ≤ c) → is_blank (encode_utf8_all cs) ≡ is_blank cs → is_blank (encode_utf8_all (c ∷ cs)) ≡ (is_blank_char c && is_blank cs)
    by (inl l) r = ap is_blank (low_all c cs l) ∙ ap (λ b. is_blank_char c && b) r
    by (inr g) r =
        let b = bytes_of c g in
        ap (λ x. is_blank (x ++ encode_utf8_all cs)) b.whole ∙ ap (λ x. x && is_blank (b.rest ++ encode_utf8_all cs)) (high_not_blank b.first b.high_first)
        ∙ ap (λ x. x && is_blank cs) (sym (high_not_blank c g))

encode_indent : (cs : List ℕ) → indent (encode_utf8_all cs) ≡ indent cs
encode_indent [] = refl
encode_indent (c ∷ cs) = by (cases_lt c 128) (encode_indent cs)
  where
    by : (c < 128) ⊎ (128 ≤ c) → indent (encode_utf8_all cs) ≡ indent cs → indent (encode_utf8_all (c ∷ cs)) ≡ cond (is_blank_char c) (1 + indent cs) 0
    by (inl l) r = ap indent (low_all c cs l) ∙ ap (λ n. cond (is_blank_char c) (1 + n) 0) r
    by (inr g) r =
        let b = bytes_of c g in
        ap (λ x. indent (x ++ encode_utf8_all cs)) b.whole ∙ ap (λ x. cond x (1 + indent (b.rest ++ encode_utf8_all cs)) 0) (high_not_blank b.first b.high_first)
        ∙ ap (λ x. cond x (1 + indent cs) 0) (sym (high_not_blank c g))

blank_low : (c : ℕ) → is_blank_char c ≡ true → c < 128
blank_low c h = grind (arith, nat_tests)

encode_cut : (n : ℕ) (cs : List ℕ) → n ≤ indent cs → encode_utf8_all (drop n cs) ≡ drop n (encode_utf8_all cs)
encode_cut zero cs h = refl
encode_cut (suc n) [] h = refl
encode_cut (suc n) (c ∷ cs) h = by (is_blank_char c) refl h (encode_cut n cs)
  where
    by : (b : Bool) → is_blank_char c ≡ b → suc n ≤ cond b (1 + indent cs) 0 → (n ≤ indent cs → encode_utf8_all (drop n cs) ≡ drop n (encode_utf8_all cs))
        → encode_utf8_all (drop n cs) ≡ drop (suc n) (encode_utf8_all (c ∷ cs))
    by true e l r = r (omega arith) ∙ ap (drop (suc n)) (sym (low_all c cs (blank_low c e)))
    by false e l r = absurd (omega arith)

encode_same_blank : (cs : List ℕ) → is_blank cs ≡ true → encode_utf8_all cs ≡ cs
encode_same_blank [] h = refl
encode_same_blank (c ∷ cs) h =
    let b = both (is_blank_char c) (is_blank cs) h in
    low_all c cs (blank_low c b.0) ∙ ap (λ x. c ∷ x) (encode_same_blank cs b.1)

encode_keeps : Keeps encode_utf8_all
encode_keeps = record { blank = encode_blank; front = encode_indent; cut = encode_cut; same = encode_same_blank }

-- ---- `\"""`

encode_quotes : (k : ℕ) (cs : List ℕ) → quotes_at k (encode_utf8_all cs) ≡ quotes_at k cs
encode_quotes zero cs = refl
encode_quotes (suc k) [] = refl
encode_quotes (suc k) (c ∷ cs) = by (cases_lt c 128) (encode_quotes k cs)
  where
    no_quote : (x : ℕ) → 128 ≤ x → eqb x 34 ≡ false
    no_quote x h = grind (arith, nat_tests)

    by : (c < 128) ⊎ (128 ≤ c) → quotes_at k (encode_utf8_all cs) ≡ quotes_at k cs → quotes_at (suc k) (encode_utf8_all (c ∷ cs)) ≡ (eqb c 34 && quotes_at k cs)
    by (inl l) r = ap (quotes_at (suc k)) (low_all c cs l) ∙ ap (λ q. eqb c 34 && q) r
    by (inr g) r =
        let b = bytes_of c g in
        ap (λ x. quotes_at (suc k) (x ++ encode_utf8_all cs)) b.whole ∙ ap (λ x. x && quotes_at k (b.rest ++ encode_utf8_all cs)) (no_quote b.first b.high_first)
        ∙ ap (λ x. x && quotes_at k cs) (sym (no_quote c g))

no_slash : (x : ℕ) → 128 ≤ x → eqb x 92 ≡ false
no_slash x h = grind (arith, nat_tests)

unquoted_high : (xs t : List ℕ) → AreHigh xs → unquoted (xs ++ t) ≡ xs ++ unquoted t
unquoted_high [] t h = refl
unquoted_high (x ∷ xs) t h = unquoted_no x (xs ++ t) (not_slash x (xs ++ t) (no_slash x h.0)) ∙ ap (λ y. x ∷ y) (unquoted_high xs t h.1)

encode_unquoted : (cs : List ℕ) → unquoted (encode_utf8_all cs) ≡ encode_utf8_all (unquoted cs)
encode_unquoted [] = refl
encode_unquoted (c ∷ cs) = by (cases_lt c 128) (encode_unquoted cs)
  where
    low : c < 128 → (b : Bool) → begins_quotes (c ∷ cs) ≡ b → unquoted (encode_utf8_all cs) ≡ encode_utf8_all (unquoted cs) → unquoted (encode_utf8_all (c ∷ cs)) ≡ encode_utf8_all (unquoted (c ∷ cs))
    low l b e r =
        let begins : begins_quotes (c ∷ encode_utf8_all cs) ≡ begins_quotes (c ∷ cs) =
        begins_is c (encode_utf8_all cs) ∙ ap (λ q. eqb c 92 && q) (encode_quotes 3 cs) ∙ sym (begins_is c cs) in
        ap unquoted (low_all c cs l) ∙ go b (begins ∙ e) e
      where
        go : (b : Bool) → begins_quotes (c ∷ encode_utf8_all cs) ≡ b → begins_quotes (c ∷ cs) ≡ b → unquoted (c ∷ encode_utf8_all cs) ≡ encode_utf8_all (unquoted (c ∷ cs))
        go true x y = unquoted_yes c (encode_utf8_all cs) x ∙ r ∙ ap encode_utf8_all (sym (unquoted_yes c cs y))
        go false x y = unquoted_no c (encode_utf8_all cs) x ∙ ap (λ z. c ∷ z) r ∙ sym (low_all c (unquoted cs) l) ∙ ap encode_utf8_all (sym (unquoted_no c cs y))

    by : (c < 128) ⊎ (128 ≤ c) → unquoted (encode_utf8_all cs) ≡ encode_utf8_all (unquoted cs) → unquoted (encode_utf8_all (c ∷ cs)) ≡ encode_utf8_all (unquoted (c ∷ cs))
    by (inl l) r = low l (begins_quotes (c ∷ cs)) refl r
    by (inr g) r =
        unquoted_high (encode_utf8 c) (encode_utf8_all cs) (high_bytes c g) ∙ ap (λ x. encode_utf8 c ++ x) r
        ∙ ap encode_utf8_all (sym (unquoted_no c cs (not_slash c cs (no_slash c g))))

-- ---- lines

high_tests : (x : ℕ) → 128 ≤ x → (eqb x 10 ≡ false) × (eqb x 13 ≡ false)
high_tests x h = (grind (arith, nat_tests), grind (arith, nat_tests))

line_high : (x : ℕ) (t : List ℕ) → 128 ≤ x → lines_of (x ∷ t) ≡ onto_line x (lines_of t)
line_high x t h =
    let e = high_tests x h in
    ap (λ b. cond b ([] ∷ lines_of t) (cond (eqb x 13) (cond (eqb (get_or t 0 0) 10) (lines_of t) ([] ∷ lines_of t)) (onto_line x (lines_of t)))) e.0
    ∙ ap (λ b. cond b (cond (eqb (get_or t 0 0) 10) (lines_of t) ([] ∷ lines_of t)) (onto_line x (lines_of t))) e.1

lines_high : (xs t line : List ℕ) (lines : List (List ℕ)) → AreHigh xs → lines_of t ≡ line ∷ lines → lines_of (xs ++ t) ≡ (xs ++ line) ∷ lines
lines_high [] t line lines h e = e
lines_high (x ∷ xs) t line lines h e = line_high x (xs ++ t) h.0 ∙ ap (onto_line x) (lines_high xs t line lines h.1 e)

first_same : (cs : List ℕ) → eqb (get_or (encode_utf8_all cs) 0 0) 10 ≡ eqb (get_or cs 0 0) 10
first_same [] = refl
first_same (c ∷ cs) = by (cases_lt c 128)
  where
    by : (c < 128) ⊎ (128 ≤ c) → eqb (get_or (encode_utf8_all (c ∷ cs)) 0 0) 10 ≡ eqb c 10
    by (inl l) = ap (λ x. eqb (get_or x 0 0) 10) (low_all c cs l)
    by (inr g) =
        let b = bytes_of c g in
        ap (λ x. eqb (get_or (x ++ encode_utf8_all cs) 0 0) 10) b.whole ∙ (high_tests b.first b.high_first).0 ∙ sym (high_tests c g).0

encode_onto : (c : ℕ) (lines : List (List ℕ)) → c < 128 → onto_line c (map encode_utf8_all lines) ≡ map encode_utf8_all (onto_line c lines)
encode_onto c [] h = ap (λ x. x ∷ []) (sym (low_all c [] h))
encode_onto c (line ∷ lines) h = ap (λ x. x ∷ map encode_utf8_all lines) (sym (low_all c line h))

encode_lines : (cs : List ℕ) → lines_of (encode_utf8_all cs) ≡ map encode_utf8_all (lines_of cs)
encode_lines [] = refl
encode_lines (c ∷ cs) = by (cases_lt c 128) (encode_lines cs)
  where
    cases : (a b d : Bool) → c < 128 → lines_of (encode_utf8_all cs) ≡ map encode_utf8_all (lines_of cs)
        → cond a ([] ∷ lines_of (encode_utf8_all cs)) (cond b (cond d (lines_of (encode_utf8_all cs)) ([] ∷ lines_of (encode_utf8_all cs))) (onto_line c (lines_of (encode_utf8_all cs))))
        ≡ map encode_utf8_all (cond a ([] ∷ lines_of cs) (cond b (cond d (lines_of cs) ([] ∷ lines_of cs)) (onto_line c (lines_of cs))))
    cases true b d l r = ap (λ x. [] ∷ x) r
    cases false true true l r = r
    cases false true false l r = ap (λ x. [] ∷ x) r
    cases false false d l r = ap (onto_line c) r ∙ encode_onto c (lines_of cs) l

    by : (c < 128) ⊎ (128 ≤ c) → lines_of (encode_utf8_all cs) ≡ map encode_utf8_all (lines_of cs) → lines_of (encode_utf8_all (c ∷ cs)) ≡ map encode_utf8_all (lines_of (c ∷ cs))
    by (inl l) r =
        ap lines_of (low_all c cs l)
        ∙ ap (λ q. cond (eqb c 10) ([] ∷ lines_of (encode_utf8_all cs)) (cond (eqb c 13) (cond q (lines_of (encode_utf8_all cs)) ([] ∷ lines_of (encode_utf8_all cs))) (onto_line c (lines_of (encode_utf8_all cs))))) (first_same cs)
        ∙ cases (eqb c 10) (eqb c 13) (eqb (get_or cs 0 0) 10) l r
    by (inr g) r =
        let s = lines_some cs in
        lines_high (encode_utf8 c) (encode_utf8_all cs) (encode_utf8_all s.0) (map encode_utf8_all s.1) (high_bytes c g) (r ∙ ap (map encode_utf8_all) s.2)
        ∙ ap (λ x. map encode_utf8_all (onto_line c x)) (sym s.2)
        ∙ ap (map encode_utf8_all) (sym (line_high c cs g))

-- ---- the value

encode_joined : (lines : List (List ℕ)) → joined (map encode_utf8_all lines) ≡ encode_utf8_all (joined lines)
encode_joined [] = refl
encode_joined (line ∷ []) = refl
encode_joined (line ∷ next ∷ lines) =
    ap (λ x. encode_utf8_all line ++ (10 ∷ x)) (encode_joined (next ∷ lines))
    ∙ ap (λ x. encode_utf8_all line ++ x) (sym (low_all 10 (joined (next ∷ lines)) (omega arith)))
    ∙ sym (encodes-append line (10 ∷ joined (next ∷ lines)))

encode_value : (cs : List ℕ) → block_value (encode_utf8_all cs) ≡ encode_utf8_all (block_value cs)
unfolding block_value
encode_value cs =
    ap (λ x. joined (to_text (from_text (dedent (lines_of x))))) (encode_unquoted cs)
    ∙ ap (λ x. joined (to_text (from_text (dedent x)))) (encode_lines (unquoted cs))
    ∙ ap joined (keeps_value encode_utf8_all encode_keeps (lines_of (unquoted cs)))
    ∙ encode_joined (to_text (from_text (dedent (lines_of (unquoted cs)))))

-- what is so of the bytes is so of the characters
pub value_chars : (bs value : List ℕ) → IsUtf8 bs → IsUtf8 value → value ≡ block_value bs → chars value ≡ block_value (chars bs)
value_chars bs value u v e =
    encodes_same (chars value) (block_value (chars bs))
    (encodes-chars value v ∙ e ∙ ap block_value (sym (encodes-chars bs u)) ∙ encode_value (chars bs))

-- and a value without characters has no bytes
pub no_bytes : (bs : List ℕ) → IsUtf8 bs → block_value (chars bs) ≡ [] → block_value bs ≡ []
no_bytes bs u h = ap block_value (sym (encodes-chars bs u)) ∙ encode_value (chars bs) ∙ ap encode_utf8_all h
