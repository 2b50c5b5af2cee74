-- Contents of strings at the front of one text, and which escape is the first bad one.
use Rattle.std.proofs.Common.{◌≡◌, ◌≢◌, ℕ, ◌≤◌, true, false, ◌⊎◌, inl, inr, List, [], ◌∷◌, ◌++◌, Option, Some, length, take, drop, refl, sym, ap, ◌∙◌, subst, append_assoc, append-nil, length-append, arith}
use Rattle.std.specs.Prelude.{◌==◌}
use Rattle.std.specs.List.{concat}
use Rattle.std.specs.Str.{NonePass}
use Rattle.std.specs.Char.{is_ascii_hexdigit}
use Rattle.std.proofs.Math.Seq.{drop-append_seam}
use Rattle.std.proofs.lemmas.Bool.Decides.{nat_tests}
use Rattle.std.proofs.lemmas.List.{take_at}
use Rattle.std.proofs.lemmas.List.Folds.{concat-append}
use Rattle.graphql_tokens.specs.tokens.Edition.{Current}
use Rattle.graphql_tokens.specs.tokens.Place.{is_line_end}
use Rattle.graphql_tokens.specs.tokens.Strings.{is_plain, AreHexDigits, UnitMeans, UnitsMean, IsContent}
use Rattle.graphql_tokens.specs.inner.Escapes.{escape_at}
use Rattle.graphql_tokens.proofs.Contents.{escape_front}
use Rattle.graphql_tokens.proofs.EscapeUnits.{escape_reads}
use Rattle.graphql_report.specs.inner.Strings.{HasNoUnit, Passes, IsBad, Ends}
use Rattle.graphql_report.specs.reports.Escapes.{HasBadEscape}

-- ---- contents joined

units-append : (us vs : List (List ℕ)) (a b : List ℕ) → UnitsMean Current us a → UnitsMean Current vs b → UnitsMean Current (us ++ vs) (a ++ b)
units-append [] vs [] b h k = k
units-append [] vs (x ∷ a) b h k = absurd h
units-append (u ∷ us) vs [] b h k = absurd h
units-append (u ∷ us) vs (x ∷ a) b h k = (h.0, units-append us vs a b h.1 k)

pub content-append : (xs ys : List ℕ) → IsContent Current xs → IsContent Current ys → IsContent Current (xs ++ ys)
content-append xs ys (a, (us, e, h)) (b, (vs, f, k)) =
    (a ++ b, (us ++ vs, ap (λ (l : List ℕ). l ++ ys) e ∙ ap (λ (l : List ℕ). concat us ++ l) f ∙ sym (concat-append us vs), units-append us vs a b h k))

pub empty-content : IsContent Current []
empty-content = ([], ([], refl, tt))

pub unit-content : (u : List ℕ) (c : ℕ) → UnitMeans Current u c → IsContent Current u
unit-content u c m = (c ∷ [], (u ∷ [], sym (append-nil u), (m, tt)))

-- ---- two units at the front of one text are one

first-same : (x y : ℕ) (xs ys : List ℕ) → (x ∷ xs) ≡ (y ∷ ys) → (x ≡ y) × (xs ≡ ys)
first-same x y xs ys e = (cc, cc)

no-escape : (c : ℕ) → is_plain c ≡ true → c ≡ 92 → ⊥
no-escape c p e = let q : is_plain 92 ≡ true = subst (λ (x : ℕ). is_plain x ≡ true) e p in absurd (cc)

pair-same : (x y v n : ℕ) → (let a : Option (ℕ × ℕ) = Some (x, y) in let b : Option (ℕ × ℕ) = Some (v, n) in a ≡ b) → y ≡ n
pair-same x y v n e =
    let p : (let a : ℕ × ℕ = (x, y) in let b : ℕ × ℕ = (v, n) in a ≡ b) = cc in
    ap (λ q. q.1) p

same-rest : (u r w s : List ℕ) (c d : ℕ) → UnitMeans Current u c → UnitMeans Current w d → u ++ r ≡ w ++ s → r ≡ s
same-rest u r w s c d (inl m) (inl n) e =
    (first-same c d r s (sym (ap (λ (l : List ℕ). l ++ r) m.0) ∙ e ∙ ap (λ (l : List ℕ). l ++ s) n.0)).1
same-rest u r w s c d (inl m) (inr n) e =
    let f = escape_front w d n in
    absurd (no-escape c m.1 (first-same c 92 r (f.0 ++ s) (sym (ap (λ (l : List ℕ). l ++ r) m.0) ∙ e ∙ ap (λ (l : List ℕ). l ++ s) f.1)).0)
same-rest u r w s c d (inr m) (inl n) e =
    let f = escape_front u c m in
    absurd (no-escape d n.1 (first-same d 92 s (f.0 ++ r) (sym (ap (λ (l : List ℕ). l ++ s) n.0) ∙ sym e ∙ ap (λ (l : List ℕ). l ++ r) f.1)).0)
same-rest u r w s c d (inr m) (inr n) e =
    let long : length u ≡ length w = pair-same c (length u) d (length w) (sym (escape_reads u r c m) ∙ ap escape_at e ∙ escape_reads w s d n) in
    sym (drop-append_seam u r) ∙ ap (drop (length u)) e ∙ ap (λ k. drop k (w ++ s)) long ∙ drop-append_seam w s

unit-some : (u : List ℕ) (c : ℕ) → UnitMeans Current u c → 1 ≤ length u
unit-some u c (inl m) = omega (arith, ap length m.0)
unit-some u c (inr m) = omega (arith, ap length (escape_front u c m).1)

-- ---- two contents at the front of one text

-- units, one or more, and what is left after them
record More (text rest : List ℕ) : Type 0 where
  unit : List ℕ
  units : List (List ℕ)
  first : ℕ
  value : List ℕ
  means : UnitMeans Current unit first
  mean : UnitsMean Current units value
  whole : text ≡ unit ++ (concat units ++ rest)

-- one of them is the other, or the other and more
parted : (us ws : List (List ℕ)) (a b r s : List ℕ) → UnitsMean Current us a → UnitsMean Current ws b → concat us ++ r ≡ concat ws ++ s → (r ≡ s) ⊎ (More r s ⊎ More s r)
parted [] [] a b r s h k e = inl e
parted [] (w ∷ ws) a [] r s h k e = absurd k
parted [] (w ∷ ws) a (d ∷ b) r s h k e = inr (inl (record { unit = w; units = ws; first = d; value = b; means = k.0; mean = k.1; whole = e ∙ append_assoc w (concat ws) s }))
parted (u ∷ us) [] [] b r s h k e = absurd h
parted (u ∷ us) [] (c ∷ a) b r s h k e = inr (inr (record { unit = u; units = us; first = c; value = a; means = h.0; mean = h.1; whole = sym e ∙ append_assoc u (concat us) r }))
parted (u ∷ us) (w ∷ ws) [] b r s h k e = absurd h
parted (u ∷ us) (w ∷ ws) (c ∷ a) [] r s h k e = absurd k
parted (u ∷ us) (w ∷ ws) (c ∷ a) (d ∷ b) r s h k e =
    parted us ws a b r s h.1 k.1
    (same-rest u (concat us ++ r) w (concat ws ++ s) c d h.0 k.0 (sym (append_assoc u (concat us) r) ∙ e ∙ append_assoc w (concat ws) s))

more-content : (unit : List ℕ) (units : List (List ℕ)) (c : ℕ) (value : List ℕ) → UnitMeans Current unit c → UnitsMean Current units value → IsContent Current (unit ++ concat units)
more-content unit units c value m n = (c ∷ value, (unit ∷ units, refl, (m, n)))

not-empty : (u more : List ℕ) (c : ℕ) → UnitMeans Current u c → u ++ more ≡ [] → ⊥
not-empty u more c m e = absurd (omega (arith, ap length e, length-append u more, unit-some u c m))

-- ---- the first bad escape

-- where a content is passed and the string or its line ends, there is none
pub none-bad : (text passed rest : List ℕ) → IsContent Current passed → text ≡ 34 ∷ (passed ++ rest) → Ends rest → HasBadEscape text → ⊥
none-bad text passed rest (a, (us, whole, h)) is end bad =
    let found : List ℕ = 92 ∷ bad.next ∷ bad.rest in
    let tail : passed ++ rest ≡ bad.content ++ found = (first-same 34 34 (passed ++ rest) (bad.content ++ found) (sym is ∙ bad.is)).1 in
    let content = bad.good_before.1 in
    by bad
    (parted us content.0 a bad.good_before.0 rest found h content.2 (ap (λ (l : List ℕ). l ++ rest) (sym whole) ∙ tail ∙ ap (λ (l : List ℕ). l ++ found) content.1))
  where
    by : (bad : HasBadEscape text) → (rest ≡ 92 ∷ bad.next ∷ bad.rest) ⊎ (More rest (92 ∷ bad.next ∷ bad.rest) ⊎ More (92 ∷ bad.next ∷ bad.rest) rest) → ⊥
    by bad (inl e) = let ends : is_line_end bad.next ≡ true = end.ends bad.next bad.rest e in let goes : is_line_end bad.next ≡ false = bad.in_line in absurd (cc)
    by bad (inr (inl m)) = end.none m.unit (concat m.units ++ 92 ∷ bad.next ∷ bad.rest) m.first m.means m.whole
    by bad (inr (inr m)) =
        bad.none (m.unit ++ concat m.units) rest (m.whole ∙ sym (append_assoc m.unit (concat m.units) rest)) (not-empty m.unit (concat m.units) m.first m.means)
        (more-content m.unit m.units m.first m.value m.means m.mean)

no-content : (text : List ℕ) → HasNoUnit text → (escape after : List ℕ) → text ≡ escape ++ after → escape ≢ [] → IsContent Current escape → ⊥
no-content text none escape after e some (a, (us, whole, h)) = by us a whole h
  where
    by : (us : List (List ℕ)) (a : List ℕ) → escape ≡ concat us → UnitsMean Current us a → ⊥
    by [] a whole h = some whole
    by (u ∷ us) [] whole h = absurd h
    by (u ∷ us) (c ∷ a) whole h = none u (concat us ++ after) c h.0 (e ∙ ap (λ (l : List ℕ). l ++ after) whole ∙ append_assoc u (concat us) after)

-- where a content is passed and a bad escape is ahead, it is that one
pub found-bad : (text passed rest : List ℕ) → IsContent Current passed → text ≡ 34 ∷ (passed ++ rest) → IsBad rest → (bad : HasBadEscape text) × (bad.content ≡ passed)
found-bad text passed rest good is bad = (
  record {
    content = passed;
    next = bad.next;
    rest = bad.rest;
    is = is ∙ ap (λ (l : List ℕ). 34 ∷ (passed ++ l)) bad.is;
    good_before = good;
    in_line = bad.in_line;
    none = no-content (92 ∷ bad.next ∷ bad.rest) (subst HasNoUnit bad.is bad.none);
  },
  refl,
)

-- a text that begins with no quote has none
pub no-string : (text : List ℕ) → ((rest : List ℕ) → text ≢ 34 ∷ rest) → HasBadEscape text → ⊥
no-string text other bad = other (bad.content ++ 92 ∷ bad.next ∷ bad.rest) bad.is

-- ---- which escapes are tried

hex-digits-none : (ds : List ℕ) → AreHexDigits ds → NonePass (λ c. c == 125) ds
hex-digits-none [] h = tt
hex-digits-none (d ∷ ds) h = let x : is_ascii_hexdigit d ≡ true = h.0 in (grind (arith, nat_tests), hex-digits-none ds h.1)

front-of : (text u after : List ℕ) (n : ℕ) → text ≡ u ++ after → length u ≡ n → take n text ≡ u
front-of text u after n e l = ap (take n) e ∙ take_at u after n l

-- the four that the code tries
pub record Tried (text : List ℕ) : Type 0 where
  pub two : IsContent Current (take 2 text) → ⊥
  pub six : IsContent Current (take 6 text) → ⊥
  pub twelve : IsContent Current (take 12 text) → ⊥
  pub braced : (front after : List ℕ) → NonePass (λ c. c == 125) front → text ≡ front ++ 125 ∷ after → IsContent Current (front ++ 125 ∷ []) → ⊥

-- an escape is one of them
pub all-tried : (text after : List ℕ) → text ≡ 92 ∷ after → Tried text → HasNoUnit text
all-tried text after is tried u more c (inl m) e =
    no-escape c m.1 (first-same c 92 more after (sym (e ∙ ap (λ (l : List ℕ). l ++ more) m.0) ∙ is)).0
all-tried text after is tried u more c (inr (inl m)) e =
    tried.two (subst (IsContent Current) (sym (front-of text u more 2 e (ap length m.1))) (unit-content u c (inr (inl m))))
all-tried text after is tried u more c (inr (inr (inl m))) e =
    let long : length u ≡ 6 = omega (arith, ap length m.0.1, m.0.2) in
    tried.six (subst (IsContent Current) (sym (front-of text u more 6 e long)) (unit-content u c (inr (inr (inl m)))))
all-tried text after is tried u more c (inr (inr (inr (inl m)))) e =
    let front : List ℕ = 92 ∷ 117 ∷ 123 ∷ m.0 in
    let whole : text ≡ front ++ 125 ∷ more = e ∙ ap (λ (l : List ℕ). l ++ more) m.1 ∙ append_assoc front (125 ∷ []) more in
    tried.braced front more (refl, (refl, (refl, hex-digits-none m.0 m.3))) whole (subst (IsContent Current) m.1 (unit-content u c (inr (inr (inr (inl m))))))
all-tried text after is tried u more c (inr (inr (inr (inr m)))) e =
    let long : length u ≡ 12 = omega (arith, ap length m.4, length-append m.0 m.1, ap length m.5.1, m.5.2, ap length m.6.1, m.6.2) in
    tried.twelve (subst (IsContent Current) (sym (front-of text u more 12 e long)) (unit-content u c (inr (inr (inr (inr m))))))

-- ---- the walk

-- what was passed of a string after its quote is a content, and what is left is the rest
pub record Walked (text rest : List ℕ) : Type 0 where
  pub passed : List ℕ
  pub good : IsContent Current passed
  pub whole : text ≡ 34 ∷ (passed ++ rest)

pub begun : (text rest : List ℕ) → text ≡ 34 ∷ rest → Walked text rest
begun text rest e = record { passed = []; good = empty-content; whole = e }

pub walked-on : (text rest after : List ℕ) → Walked text rest → Passes rest after → Walked text after
walked-on text rest after w p = record {
  passed = w.passed ++ p.content;
  good = content-append w.passed p.content w.good p.is_content;
  whole = w.whole ∙ ap (λ (l : List ℕ). 34 ∷ (w.passed ++ l)) p.whole ∙ ap (λ (l : List ℕ). 34 ∷ l) (sym (append_assoc w.passed p.content after));
}
