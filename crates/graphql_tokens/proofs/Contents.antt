-- Contents of strings: what their front means, what is left, and that they mean one thing.
use Rattle.std.proofs.Common.{◌≡◌, ℕ, ◌+◌, ◌-◌, ◌≤◌, ◌<◌, Bool, true, false, cond, ◌⊎◌, List, [], ◌∷◌, ◌++◌, Option, Some, None, length, take, drop, get_or, refl, sym, ap, ◌∙◌, subst, inl, inr, arith, append_assoc, length-append, length-drop, one-add, ◌&&◌}
use Rattle.std.proofs.Math.Seq.{drop-append_seam, take-append_seam, take-add, take-length}
use Rattle.std.proofs.lemmas.Bool.{cases_lt}
use Rattle.std.proofs.lemmas.Bool.Decides.{nat_tests}
use Rattle.std.proofs.lemmas.List.{append-nil, get_or-drop, take_rest}
use Rattle.std.proofs.lemmas.List.Sums.{prefix_len-le-length, prefix_len_stops}
use Rattle.std.proofs.lemmas.Str.{encodes-chars, chars-append, encodes-append, encodes-IsAscii, chars-IsAscii, encode_ascii, chars-encodes, chars-nil, IsUtf8-take, IsUtf8-drop, IsUtf8-between, IsUtf8-append, IsUtf8-from_ascii, IsCharBoundary-before_ascii, IsCharBoundary-end, IsCharBoundary-from_take}
use Rattle.std.specs.Char.{IsScalar, encode_utf8}
use Rattle.std.specs.List.{AllByRecursion, concat, prefix_len}
use Rattle.std.specs.Str.{chars, IsUtf8, IsCharBoundary, encode_utf8_all}
use Rattle.graphql_tokens.specs.tokens.Edition.{Former, Current}
use Rattle.graphql_tokens.specs.tokens.Strings.{is_plain, Escape, quote, backslash, slash, backspace, form_feed, line_feed, carriage_return, tab, UnitMeans, UnitsMean, StringMeans, IsContent}
use Rattle.graphql_tokens.specs.inner.Escapes.{escape_at}
use Rattle.graphql_tokens.proofs.Chars.{chars_split}
use Rattle.graphql_tokens.proofs.Scan.{ascii_char}
use Rattle.graphql_tokens.proofs.EscapeChars.{escape_ascii}
use Rattle.graphql_tokens.proofs.EscapeUnits.{EscapeMeans, escape_reads, escape_found, pair_scalar}

-- ---- editions

former_unit : (u : List ℕ) (c : ℕ) → UnitMeans Former u c → UnitMeans Current u c
former_unit u c (inl w) = inl w
former_unit u c (inr (inl w)) = inr (inl w)
former_unit u c (inr (inr (inl w))) = inr (inr (inl w))
former_unit u c (inr (inr (inr w))) = absurd w

-- what units meant in the former edition, they mean now
pub former_units : (us : List (List ℕ)) (v : List ℕ) → UnitsMean Former us v → UnitsMean Current us v
former_units [] [] h = tt
former_units [] (c ∷ cs) h = absurd h
former_units (u ∷ us) [] h = absurd h
former_units (u ∷ us) (c ∷ cs) h = (former_unit u c h.0, former_units us cs h.1)

-- what a content meant in the former edition, it means now
pub former_means : (content value : List ℕ) → StringMeans Former content value → StringMeans Current content value
former_means content value m = (m.0, m.1, former_units m.0 value m.2)

-- ---- contents joined

concat_append : (us vs : List (List ℕ)) → concat (us ++ vs) ≡ concat us ++ concat vs
concat_append [] vs = refl
concat_append (u ∷ us) vs = ap (λ x. u ++ x) (concat_append us vs) ∙ sym (append_assoc u (concat us) (concat vs))

units_append : (us vs : List (List ℕ)) (a b : List ℕ) → UnitsMean Current us a → UnitsMean Current vs b → UnitsMean Current (us ++ vs) (a ++ b)
units_append [] vs [] b h k = k
units_append [] vs (x ∷ a) b h k = absurd h
units_append (u ∷ us) vs [] b h k = absurd h
units_append (u ∷ us) vs (x ∷ a) b h k = (h.0, units_append us vs a b h.1 k)

means_append : (s t a b : List ℕ) → StringMeans Current s a → StringMeans Current t b → StringMeans Current (s ++ t) (a ++ b)
means_append s t a b m n =
    (m.0 ++ n.0, ap (λ x. x ++ t) m.1 ∙ ap (λ x. concat m.0 ++ x) n.1 ∙ sym (concat_append m.0 n.0), units_append m.0 n.0 a b m.2 n.2)

means_unit : (u : List ℕ) (c : ℕ) → EscapeMeans u c → StringMeans Current u (c ∷ [])
means_unit u c m = (u ∷ [], sym (append-nil u), (inr m, tt))

abbrev ArePlain : List ℕ → Type 0
ArePlain cs = AllByRecursion (λ c. is_plain c ≡ true) cs

means_plain : (cs : List ℕ) → ArePlain cs → StringMeans Current cs cs
means_plain [] h = ([], refl, tt)
means_plain (c ∷ cs) h = let m = means_plain cs h.1 in ((c ∷ []) ∷ m.0, ap (λ x. c ∷ x) m.1, (inl (refl, h.0), m.2))

-- ---- one unit at the front, and no other

-- the character for which the unit at the front stands, and its length
abbrev unit_at : List ℕ → Option (ℕ × ℕ)
unit_at [] = None
unit_at (x ∷ xs) = cond (is_plain x) (Some (x, 1)) (escape_at (x ∷ xs))

-- an escape begins with a backslash
pub escape_front : (u : List ℕ) (c : ℕ) → EscapeMeans u c → (w : List ℕ) × (u ≡ 92 ∷ w)
escape_front u c (inl w) = (w.0 ∷ [], w.1)
escape_front u c (inr (inl w)) = (117 ∷ w.0.0, w.0.1)
escape_front u c (inr (inr (inl w))) = (117 ∷ 123 ∷ (w.0 ++ 125 ∷ []), w.1)
escape_front u c (inr (inr (inr w))) = (117 ∷ (w.5.0 ++ w.1), w.4 ∙ ap (λ x. x ++ w.1) w.5.1)

unit_reads : (u rest : List ℕ) (c : ℕ) → UnitMeans Current u c → unit_at (u ++ rest) ≡ Some (c, length u)
unit_reads u rest c (inl w) =
    ap (λ x. unit_at (x ++ rest)) w.0 ∙ ap (λ b. cond b (Some (c, 1)) (escape_at (c ∷ rest))) w.1 ∙ ap (λ x. Some (c, length x)) (sym w.0)
unit_reads u rest c (inr m) =
    let f = escape_front u c m in
    let e : unit_at (u ++ rest) ≡ escape_at (u ++ rest) = ap (λ x. unit_at (x ++ rest)) f.1 ∙ ap (λ x. escape_at (x ++ rest)) (sym f.1) in
    e ∙ escape_reads u rest c m

pair_same : (x y v n : ℕ) → (let a : Option (ℕ × ℕ) = Some (x, y) in let b : Option (ℕ × ℕ) = Some (v, n) in a ≡ b) → (x ≡ v) × (y ≡ n)
pair_same x y v n e =
    let p : (let a : ℕ × ℕ = (x, y) in let b : ℕ × ℕ = (v, n) in a ≡ b) = cc in
    (ap (λ q. q.0) p, ap (λ q. q.1) p)

record SameFront (c d : ℕ) (r s : List ℕ) : Type 0 where
  value : c ≡ d
  rest : r ≡ s

same_front : (u r w s : List ℕ) (c d : ℕ) → UnitMeans Current u c → UnitMeans Current w d → u ++ r ≡ w ++ s → SameFront c d r s
same_front u r w s c d m n e =
    let p = pair_same c (length u) d (length w) (sym (unit_reads u r c m) ∙ ap unit_at e ∙ unit_reads w s d n) in
    record {
      value = p.0;
      rest = sym (drop-append_seam u r) ∙ ap (drop (length u)) e ∙ ap (λ k. drop k (w ++ s)) p.1 ∙ drop-append_seam w s;
    }

unit_some : (u : List ℕ) (c : ℕ) → UnitMeans Current u c → (x : ℕ) × (xs : List ℕ) × (u ≡ x ∷ xs)
unit_some u c (inl w) = (c, [], w.0)
unit_some u c (inr m) = let f = escape_front u c m in (92, f.0, f.1)

cons_same : (x y : ℕ) (xs ys : List ℕ) → (x ∷ xs) ≡ (y ∷ ys) → x ≡ y
cons_same x y xs ys e = cc

not_nil : (x : ℕ) (xs : List ℕ) → [] ≡ x ∷ xs → ⊥
not_nil x xs e = cc

-- a content of which the front is known: the rest is a content, with the rest of the value
record Left (rest front value : List ℕ) : Type 0 where
  after : List ℕ
  is : value ≡ front ++ after
  means : StringMeans Current rest after

left_of : (us ws : List (List ℕ)) (front value rest : List ℕ) → UnitsMean Current us front → UnitsMean Current ws value → concat us ++ rest ≡ concat ws → Left rest front value
left_of [] ws [] value rest m n e = record { after = value; is = refl; means = (ws, e, n) }
left_of [] ws (c ∷ cs) value rest m n e = absurd m
left_of (u ∷ us) ws [] value rest m n e = absurd m
left_of (u ∷ us) [] (c ∷ cs) value rest m n e =
    let s = unit_some u c m.0 in
    absurd (not_nil s.0 _ (sym e ∙ ap (λ x. (x ++ concat us) ++ rest) s.2))
left_of (u ∷ us) (w ∷ ws) (c ∷ cs) [] rest m n e = absurd n
left_of (u ∷ us) (w ∷ ws) (c ∷ cs) (d ∷ ds) rest m n e =
    let f = same_front u (concat us ++ rest) w (concat ws) c d m.0 n.0 (sym (append_assoc u (concat us) rest) ∙ e) in
    let l = left_of us ws cs ds rest m.1 n.1 f.rest in
    record { after = l.after; is = ap (λ x. x ∷ ds) (sym f.value) ∙ ap (λ x. c ∷ x) l.is; means = l.means }

nil_means : (us : List (List ℕ)) (value : List ℕ) → UnitsMean Current us value → [] ≡ concat us → value ≡ []
nil_means [] [] m e = refl
nil_means [] (c ∷ cs) m e = absurd m
nil_means (u ∷ us) [] m e = absurd m
nil_means (u ∷ us) (c ∷ cs) m e = let s = unit_some u c m.0 in absurd (not_nil s.0 _ (e ∙ ap (λ x. x ++ concat us) s.2))

-- a content means one thing
pub means_once : (content value other : List ℕ) → StringMeans Current content value → StringMeans Current content other → other ≡ value
means_once content value other m n =
    let l = left_of m.0 n.0 value other [] m.2 n.2 (append-nil (concat m.0) ∙ sym m.1 ∙ n.1) in
    l.is ∙ ap (λ x. value ++ x) (nil_means l.means.0 l.after l.means.2 l.means.1) ∙ append-nil value

-- ---- bytes

letter_scalar : (e c : ℕ) → Escape e c → IsScalar c
letter_scalar _ _ quote = refl
letter_scalar _ _ backslash = refl
letter_scalar _ _ slash = refl
letter_scalar _ _ backspace = refl
letter_scalar _ _ form_feed = refl
letter_scalar _ _ line_feed = refl
letter_scalar _ _ carriage_return = refl
letter_scalar _ _ tab = refl

escape_scalar : (u : List ℕ) (c : ℕ) → EscapeMeans u c → IsScalar c
escape_scalar u c (inl w) = letter_scalar w.0 c w.2
escape_scalar u c (inr (inl w)) = w.1
escape_scalar u c (inr (inr (inl w))) = w.5
escape_scalar u c (inr (inr (inr w))) = pair_scalar w.2 w.3 c w.7 w.8 w.9

high_plain : (c : ℕ) → 128 ≤ c → is_plain c ≡ true
high_plain c h = grind (arith, nat_tests)

not_plain_low : (c : ℕ) → is_plain c ≡ false → c < 128
not_plain_low c h = by (cases_lt c 128)
  where
    by : (c < 128) ⊎ (128 ≤ c) → c < 128
    by (inl l) = l
    by (inr g) = let e = high_plain c g in absurd (cc)

plain_after : (xs ys : List ℕ) → ArePlain (xs ++ ys) → ArePlain ys
plain_after [] ys h = h
plain_after (x ∷ xs) ys h = plain_after xs ys h.1

plain_chars : (cs : List ℕ) → ArePlain (encode_utf8_all cs) → ArePlain cs
plain_chars [] h = tt
plain_chars (c ∷ cs) h = by (cases_lt c 128) (plain_chars cs (plain_after (encode_utf8 c) (encode_utf8_all cs) h))
  where
    by : (c < 128) ⊎ (128 ≤ c) → ArePlain cs → ArePlain (c ∷ cs)
    by (inl l) t =
        let w : ArePlain (c ∷ encode_utf8_all cs) = subst (λ (x : List ℕ). ArePlain (x ++ encode_utf8_all cs)) (encode_ascii c l) h in
        (w.0, t)
    by (inr g) t = (high_plain c g, t)

plain_run : (xs : List ℕ) → ArePlain (take (prefix_len is_plain xs) xs)
plain_run [] = tt
plain_run (x ∷ xs) = by (is_plain x) refl (plain_run xs)
  where
    by : (b : Bool) → is_plain x ≡ b → ArePlain (take (prefix_len is_plain xs) xs) → ArePlain (take (cond b (1 + prefix_len is_plain xs) 0) (x ∷ xs))
    by true e r = rw (one-add (prefix_len is_plain xs)) (e, r)
    by false e r = tt

-- ---- what the code has passed

-- the text up to the offset means the value, and what stands there isn't plain
pub record Passed (bs : List ℕ) (at : ℕ) (value : List ℕ) : Type 0 where
  pub means : StringMeans Current (chars (take at bs)) (chars value)
  pub boundary : IsCharBoundary bs at
  pub stops : at < length bs → is_plain (get_or bs at 0) ≡ false

-- a run of plain characters
pub past_run : (bs value run : List ℕ) (i j : ℕ) → IsUtf8 bs → IsUtf8 value → IsCharBoundary bs i → StringMeans Current (chars (take i bs)) (chars value)
    → j ≡ i + prefix_len is_plain (drop i bs) → run ≡ take (j - i) (drop i bs) → Passed bs j (value ++ run)
past_run bs value run i j u v b m e r =
    let n = prefix_len is_plain (drop i bs) in
    let front : take j bs ≡ take i bs ++ run = ap (λ k. take k bs) e ∙ take-add i n bs ∙ ap (λ x. take i bs ++ x) is in
    let end : IsCharBoundary bs j = boundary (cases_lt j (length bs)) in
    let utf8 : IsUtf8 run = rw r (IsUtf8-between bs i j u (omega arith) b end) in
    let plain : ArePlain (chars run) = plain_chars (chars run) (subst ArePlain (sym (encodes-chars run utf8)) (subst ArePlain is (plain_run (drop i bs)))) in
    let joined = means_append (chars (take i bs)) (chars run) (chars value) (chars run) m (means_plain (chars run) plain) in
    record {
      means = rw (front, chars-append (take i bs) run (IsUtf8-take bs i u b), chars-append value run v) joined;
      boundary = end;
      stops = stops;
    }
  where
    is : take (prefix_len is_plain (drop i bs)) (drop i bs) ≡ run
    is = let k : j - i ≡ prefix_len is_plain (drop i bs) = omega arith in ap (λ k. take k (drop i bs)) (sym k) ∙ sym r

    stops : j < length bs → is_plain (get_or bs j 0) ≡ false
    stops l =
        let n = prefix_len is_plain (drop i bs) in
        let k : n < length (drop i bs) = omega (arith, length-drop i bs) in
        ap (λ x. is_plain (get_or bs x 0)) e ∙ ap is_plain (sym (get_or-drop i bs n 0)) ∙ prefix_len_stops is_plain (drop i bs) 0 k

    boundary : (j < length bs) ⊎ (length bs ≤ j) → IsCharBoundary bs j
    boundary (inl l) = IsCharBoundary-before_ascii bs j l (not_plain_low (get_or bs j 0) (stops l))
    boundary (inr g) =
        let same : length bs ≡ j = omega (arith, b.0, length-drop i bs, prefix_len-le-length is_plain (drop i bs)) in
        subst (λ (k : ℕ). IsCharBoundary bs k) same (IsCharBoundary-end bs)

-- the text up to the offset means the value
pub record Escaped (bs : List ℕ) (at : ℕ) (value : List ℕ) : Type 0 where
  pub means : StringMeans Current (chars (take at bs)) (chars value)
  pub boundary : IsCharBoundary bs at

-- an escape
past_escape : (bs value : List ℕ) (i c n : ℕ) → IsUtf8 bs → IsUtf8 value → IsCharBoundary bs i → StringMeans Current (chars (take i bs)) (chars value)
    → escape_at (drop i bs) ≡ Some (c, n) → Escaped bs (i + n) (value ++ encode_utf8 c)
past_escape bs value i c n u v b m e =
    let f = escape_found (drop i bs) c n e in
    let ascii = escape_ascii f.unit c f.means in
    let scalar = escape_scalar f.unit c f.means in
    let is : take n (drop i bs) ≡ f.unit = ap (λ x. take n x) f.whole ∙ ap (λ k. take k (f.unit ++ f.rest)) (sym f.long) ∙ take-append_seam f.unit f.rest in
    let front : take (i + n) bs ≡ take i bs ++ f.unit = take-add i n bs ∙ ap (λ x. take i bs ++ x) is in
    let read : chars (take (i + n) bs) ≡ chars (take i bs) ++ f.unit = ap chars front ∙ chars-append (take i bs) f.unit (IsUtf8-take bs i u b) ∙ ap (λ x. chars (take i bs) ++ x) (chars-IsAscii f.unit ascii) in
    let char : chars (encode_utf8 c) ≡ c ∷ [] = ap chars (sym (append-nil (encode_utf8 c))) ∙ chars-encodes (c ∷ []) (ap (λ b. b && true) scalar) in
    let value_is : chars (value ++ encode_utf8 c) ≡ chars value ++ c ∷ [] = chars-append value (encode_utf8 c) v ∙ ap (λ x. chars value ++ x) char in
    let within : i + n ≤ length bs = omega (arith, b.0, length-drop i bs, ap length f.whole, length-append f.unit f.rest, f.long) in
    let joined = means_append (chars (take i bs)) f.unit (chars value) (c ∷ []) m (means_unit f.unit c f.means) in
    record {
      means = rw (read, value_is) joined;
      boundary = IsCharBoundary-from_take bs (i + n) u within (rw front (IsUtf8-append (take i bs) f.unit (IsUtf8-take bs i u b) (IsUtf8-from_ascii f.unit ascii)));
    }

-- neither
pub no_content : (bs value : List ℕ) (i : ℕ) → IsUtf8 bs → IsCharBoundary bs i → i < length bs → StringMeans Current (chars (take i bs)) (chars value)
    → is_plain (get_or bs i 0) ≡ false → escape_at (drop i bs) ≡ None → IsContent Current (chars bs) → ⊥
no_content bs value i u b l m p e content =
    let w = content.1 in
    let whole : concat m.0 ++ chars (drop i bs) ≡ concat w.0 = ap (λ x. x ++ chars (drop i bs)) (sym m.1) ∙ sym (chars_split bs i u b) ∙ w.1 in
    let rest = left_of m.0 w.0 (chars value) content.0 (chars (drop i bs)) m.2 w.2 whole in
    by rest.means.0 rest.after rest.means.2 rest.means.1
  where
    read : chars (drop i bs) ≡ get_or bs i 0 ∷ chars (drop (i + 1) bs)
    read = ascii_char bs i u b l (not_plain_low (get_or bs i 0) p)

    no_unit : (unit more : List ℕ) (c : ℕ) → UnitMeans Current unit c → chars (drop i bs) ≡ unit ++ more → ⊥
    no_unit unit more c (inl w) is =
        let same : get_or bs i 0 ≡ c = cons_same (get_or bs i 0) c _ _ (sym read ∙ is ∙ ap (λ y. y ++ more) w.0) in
        let q : is_plain (get_or bs i 0) ≡ true = ap is_plain same ∙ w.1 in
        absurd (cc)
    no_unit unit more c (inr w) is =
        let bytes : drop i bs ≡ unit ++ encode_utf8_all more =
        sym (encodes-chars (drop i bs) (IsUtf8-drop bs i u b)) ∙ ap encode_utf8_all is ∙ encodes-append unit more
        ∙ ap (λ y. y ++ encode_utf8_all more) (encodes-IsAscii unit (escape_ascii unit c w)) in
        let some = sym e ∙ ap escape_at bytes ∙ escape_reads unit (encode_utf8_all more) c w in
        absurd (cc)

    by : (us : List (List ℕ)) (v : List ℕ) → UnitsMean Current us v → chars (drop i bs) ≡ concat us → ⊥
    by [] v k is = not_nil (get_or bs i 0) _ (sym is ∙ read)
    by (unit ∷ us) [] k is = k
    by (unit ∷ us) (c ∷ cs) k is = no_unit unit (concat us) c k.0 is

-- a text that is plain to its end means itself
pub all_plain : (bs : List ℕ) (n : ℕ) → IsUtf8 bs → n ≡ prefix_len is_plain bs → n ≡ length bs → StringMeans Current (chars bs) (chars bs)
all_plain bs n u e l =
    let is : take (prefix_len is_plain bs) bs ≡ bs = ap (λ k. take k bs) (sym e ∙ l) ∙ take-length bs in
    means_plain (chars bs) (plain_chars (chars bs) (subst ArePlain (sym (encodes-chars bs u)) (subst ArePlain is (plain_run bs))))

pub nothing : StringMeans Current (chars []) (chars [])
nothing = rw chars-nil ([], refl, tt)

-- an escape has a character at least
pub escape_some : (text : List ℕ) (c n : ℕ) → escape_at text ≡ Some (c, n) → (0 < n) × (n ≤ length text)
escape_some text c n e =
    let f = escape_found text c n e in
    let u = escape_front f.unit c f.means in
    (omega (arith, ap length u.1, f.long), omega (arith, ap length f.whole, length-append f.unit f.rest, f.long))

-- what the code reads and adds
pub past_push : (bs old new : List ℕ) (i c n : ℕ) → IsUtf8 bs → IsUtf8 old → IsCharBoundary bs i → StringMeans Current (chars (take i bs)) (chars old)
    → Some (c, n) ≡ escape_at (take (length bs - i) (drop i bs)) → new ≡ old ++ encode_utf8 c → Escaped bs (i + n) new
past_push bs old new i c n u v b m e is =
    rw is (past_escape bs old i c n u v b m (ap escape_at (sym (take_rest bs i)) ∙ sym e))

-- an escape has four characters at least, or stands for an ASCII character, which has one byte
pub escape_wide : (text : List ℕ) (c n : ℕ) → escape_at text ≡ Some (c, n) → (c < 128) ⊎ (4 ≤ n)
escape_wide text c n e = let f = escape_found text c n e in by f.unit f.means (sym f.long)
  where
    letter : (x y : ℕ) → Escape x y → y < 128
    letter _ _ quote = omega arith
    letter _ _ backslash = omega arith
    letter _ _ slash = omega arith
    letter _ _ backspace = omega arith
    letter _ _ form_feed = omega arith
    letter _ _ line_feed = omega arith
    letter _ _ carriage_return = omega arith
    letter _ _ tab = omega arith

    by : (unit : List ℕ) → EscapeMeans unit c → n ≡ length unit → (c < 128) ⊎ (4 ≤ n)
    by unit (inl w) long = inl (letter w.0 c w.2)
    by unit (inr (inl w)) long = inr (omega (arith, long, ap length w.0.1, w.0.2))
    by unit (inr (inr (inl w))) long = inr (omega (arith, long, ap length w.1, length-append w.0 (125 ∷ []), w.2))
    by unit (inr (inr (inr w))) long = inr (omega (arith, long, ap length w.4, length-append w.0 w.1, ap length w.5.1, w.5.2))
