-- What the first byte and the first character of what is ahead say of the token there.
use Rattle.std.proofs.Common.{◌≡◌, ◌≢◌, ℕ, ◌≤◌, ◌<◌, List, [], ◌∷◌, Bool, true, false, cond, ◌||◌, eqb, length, refl, sym, ap, ◌∙◌, arith, inl, inr, subst}
use Rattle.std.proofs.lemmas.Bool.Decides.{nat_tests}
use Rattle.std.specs.Char.{is_ascii_digit}
use Rattle.graphql_tokens.specs.tokens.Place.{is_line_end, is_in_line}
use Rattle.graphql_tokens.specs.tokens.Classes.{is_ignored, is_punct, is_name_start, is_name_char}
use Rattle.graphql_tokens.specs.tokens.Cuts.{is_last}
use Rattle.graphql_tokens.specs.inner.ByteClasses.{past_class, has_byte, begins_number}
use Rattle.graphql_tokens.specs.inner.Reading.{skip, past_line, past_dots, found, quoted, next}
use Rattle.graphql_tokens.specs.inner.Running.{ahead}
use Rattle.graphql_tokens.specs.inner.Lexing.{RunsOver, IsFirstByte, Gives, rest_if}
use Rattle.graphql_tokens.specs.declared.pos.running.RunningPlace.{RunningPlace}
use Rattle.graphql_tokens.specs.declared.lexer.class.CharClass.TheVariants.{EndsIgnored}
use Rattle.graphql_tokens.specs.declared.lexer.TokenKind.{TokenKind}
use Rattle.graphql_tokens.specs.declared.lexer.TokenKind.TheVariants.{Punct, Name, Number, Fault, End}
use Rattle.graphql_tokens.specs.inner.Numbers.{past_number}
use Rattle.graphql_tokens.proofs.Nexts.{at_number}
use Rattle.graphql_tokens.proofs.Skips.{skip_goes, skip_comment, skip_rest}

-- ---- the first character

pub first_low : (b c : ℕ) (text rest : List ℕ) → IsFirstByte b text → text ≡ c ∷ rest → b < 128 → c ≡ b
first_low b c text rest f is l = by (subst (IsFirstByte b) is f)
  where
    by : IsFirstByte b (c ∷ rest) → c ≡ b
    by (inl x) = x.1
    by (inr x) = absurd (omega (arith, x.0))

pub first_wide : (b c : ℕ) (text rest : List ℕ) → IsFirstByte b text → text ≡ c ∷ rest → 128 ≤ b → 128 ≤ c
first_wide b c text rest f is h = by (subst (IsFirstByte b) is f)
  where
    by : IsFirstByte b (c ∷ rest) → 128 ≤ c
    by (inl x) = absurd (omega (arith, x.0))
    by (inr x) = x.2

-- another byte than an ASCII one
pub first_not : (b c d : ℕ) (text rest : List ℕ) → IsFirstByte b text → text ≡ c ∷ rest → d < 128 → b ≢ d → eqb c d ≡ false
first_not b c d text rest f is l n = by (subst (IsFirstByte b) is f)
  where
    by : IsFirstByte b (c ∷ rest) → eqb c d ≡ false
    by (inl x) = let other : c ≢ d = λ e. n (sym x.1 ∙ e) in grind (arith, nat_tests)
    by (inr x) = let wide : 128 ≤ c = x.2 in grind (arith, nat_tests)

pub first_some : (b : ℕ) (text : List ℕ) → IsFirstByte b text → text ≢ []
first_some b [] f e = f
first_some b (c ∷ cs) f e = cc

-- ---- ignored text

ignored_low : (b : ℕ) → b < 256 → is_ignored b ≡ true → b < 128
ignored_low b h t = grind (arith, nat_tests)

first_byte : (b : ℕ) (text : List ℕ) → IsFirstByte b text → b < 256
first_byte b [] f = absurd f
first_byte b (c ∷ rest) (inl x) = omega (arith, x.0)
first_byte b (c ∷ rest) (inr x) = x.1

pub skip_blank : (b c : ℕ) (text rest : List ℕ) → IsFirstByte b text → text ≡ c ∷ rest → is_ignored b ≡ true → skip rest ≡ skip text
skip_blank b c text rest f is t =
    sym (ap skip is ∙ skip_goes c rest (ap is_ignored (first_low b c text rest f is (ignored_low b (first_byte b text f) t)) ∙ t))

pub skip_hash : (b : ℕ) (text : List ℕ) → IsFirstByte b text → b ≡ 35 → skip (past_line text) ≡ skip text
skip_hash b [] f e = absurd f
skip_hash b (c ∷ rest) f e = sym (skip_comment c rest (first_low b c (c ∷ rest) rest f refl (omega arith) ∙ e))

line_shorter : (text : List ℕ) → length (past_line text) ≤ length text
line_shorter [] = omega arith
line_shorter (c ∷ cs) = by (is_line_end c) (line_shorter cs)
  where
    by : (t : Bool) → length (past_line cs) ≤ length cs → length (cond t cs (past_line cs)) ≤ length (c ∷ cs)
    by true h = omega arith
    by false h = omega arith

pub hash_shorter : (b : ℕ) (text : List ℕ) → IsFirstByte b text → b ≡ 35 → length (past_line text) < length text
hash_shorter b [] f e = absurd f
hash_shorter b (c ∷ rest) f e =
    let is : c ≡ 35 = first_low b c (c ∷ rest) rest f refl (omega arith) ∙ e in
    let same : past_line (c ∷ rest) ≡ past_line rest = rw is refl in
    omega (arith, ap length same, line_shorter rest)

not_ignored : (c : ℕ) → 128 ≤ c → c ≢ 0xFEFF → is_ignored c ≡ false
not_ignored c h n = grind (arith, nat_tests)

pub skip_wide : (b c : ℕ) (text rest : List ℕ) → IsFirstByte b text → text ≡ c ∷ rest → 128 ≤ b → c ≢ 0xFEFF → text ≡ skip text
skip_wide b c text rest f is h n =
    let k = first_wide b c text rest f is h in
    is ∙ sym (ap skip is ∙ skip_rest (c ∷ rest) (not_ignored c k n, λ e. omega arith))

skip_other : (b : ℕ) (text : List ℕ) → IsFirstByte b text → b < 128 → is_ignored b ≡ false → b ≢ 35 → text ≡ skip text
skip_other b [] f l t n = absurd f
skip_other b (c ∷ rest) f l t n =
    let is = first_low b c (c ∷ rest) rest f refl l in
    sym (skip_rest (c ∷ rest) (ap is_ignored is ∙ t, λ e. n (sym is ∙ e)))

ends_kept : (b : ℕ) → has_byte EndsIgnored b ≡ true → (b < 128) × (is_ignored b ≡ false) × (b ≢ 35)
ends_kept b t = (grind (arith, nat_tests), grind (arith, nat_tests), λ e. grind (arith, nat_tests))

-- what ends ignored text isn't ignored
pub skip_end : (b : ℕ) (text : List ℕ) → IsFirstByte b text → has_byte EndsIgnored b ≡ true → text ≡ skip text
skip_end b text f t = let k = ends_kept b t in skip_other b text f k.0 k.1 k.2

-- what neither ends it nor begins a comment is
pub blank_else : (b : ℕ) → b < 128 → b ≢ 35 → has_byte EndsIgnored b ≡ false → is_ignored b ≡ true
blank_else b l n f = grind (arith, nat_tests)

pub skip_nothing : (text : List ℕ) → text ≡ [] → text ≡ skip text
skip_nothing text e = e ∙ sym (ap skip e ∙ skip_rest [] tt)

-- ---- tokens

name_low : (b : ℕ) → is_name_start b ≡ true → (b < 128) × (is_in_line b ≡ true) × (is_punct b ≡ false)
name_low b t = (grind (arith, nat_tests), grind (arith, nat_tests), grind (arith, nat_tests))

punct_low : (b : ℕ) → is_punct b ≡ true → (b < 128) × (is_in_line b ≡ true)
punct_low b t = (grind (arith, nat_tests), grind (arith, nat_tests))

pub next_end : (text : List ℕ) → text ≡ [] → next text ≡ (End, [])
unfolding next
next_end text e = ap next e

pub next_name : (b c : ℕ) (text rest : List ℕ) → IsFirstByte b text → text ≡ c ∷ rest → is_name_start b ≡ true → next text ≡ (Name, past_class is_name_char rest)
unfolding next
next_name b c text rest f is t =
    let n = name_low b t in
    let same = first_low b c text rest f is n.0 in
    ap next (is ∙ ap (λ d. d ∷ rest) same) ∙ rw (n.2, t) refl

pub next_punct : (b c : ℕ) (text rest : List ℕ) → IsFirstByte b text → text ≡ c ∷ rest → is_punct b ≡ true → next text ≡ (Punct, rest)
unfolding next
next_punct b c text rest f is t =
    let same = first_low b c text rest f is (punct_low b t).0 in
    ap next (is ∙ ap (λ d. d ∷ rest) same) ∙ rw t refl

pub next_dot : (b c : ℕ) (text rest : List ℕ) → IsFirstByte b text → text ≡ c ∷ rest → b ≡ 46 → next text ≡ found Punct text (past_dots rest)
unfolding next
next_dot b c text rest f is e =
    let same : text ≡ 46 ∷ rest = is ∙ ap (λ d. d ∷ rest) (first_low b c text rest f is (omega arith) ∙ e) in
    rw same refl

pub next_quote : (b c : ℕ) (text rest : List ℕ) → IsFirstByte b text → text ≡ c ∷ rest → b ≡ 34 → next text ≡ quoted rest
unfolding next
next_quote b c text rest f is e =
    let same : text ≡ 34 ∷ rest = is ∙ ap (λ d. d ∷ rest) (first_low b c text rest f is (omega arith) ∙ e) in
    rw same refl

number_low : (b : ℕ) → begins_number b ≡ true → b < 128
number_low b t = grind (arith, nat_tests)

pub next_number : (b : ℕ) (text : List ℕ) → IsFirstByte b text → (is_ascii_digit b || eqb b 45) ≡ true → next text ≡ found Number text (past_number text)
next_number b [] f t = absurd f
next_number b (c ∷ cs) f t = at_number c cs (ap begins_number (first_low b c (c ∷ cs) cs f refl (number_low b t)) ∙ t)

next_none_at : (c : ℕ) (cs : List ℕ) → is_punct c ≡ false → is_name_start c ≡ false → c ≢ 34 → begins_number c ≡ false → c ≢ 46 → next (c ∷ cs) ≡ (Fault, c ∷ cs)
unfolding next
next_none_at c cs p n q m d =
    let x : eqb c 34 ≡ false = grind (arith, nat_tests) in
    let y : eqb c 46 ≡ false = grind (arith, nat_tests) in
    rw (p, n, x, m, y) refl

wide_none : (c : ℕ) → 128 ≤ c → (is_punct c ≡ false) × (is_name_start c ≡ false) × (c ≢ 34) × (begins_number c ≡ false) × (c ≢ 46)
wide_none c h = (grind (arith, nat_tests), grind (arith, nat_tests), (λ e. omega arith), grind (arith, nat_tests), λ e. omega arith)

pub next_none : (b : ℕ) (text : List ℕ) → IsFirstByte b text → is_punct b ≡ false → is_name_start b ≡ false → b ≢ 34 → (is_ascii_digit b || eqb b 45) ≡ false → b ≢ 46 → next text ≡ (Fault, text)
next_none b [] f p n q m d = absurd f
next_none b (c ∷ cs) (inl x) p n q m d =
    next_none_at c cs (ap is_punct x.1 ∙ p) (ap is_name_start x.1 ∙ n) (λ e. q (sym x.1 ∙ e)) (ap begins_number x.1 ∙ m) (λ e. d (sym x.1 ∙ e))
next_none b (c ∷ cs) (inr x) p n q m d = let w = wide_none c x.2 in next_none_at c cs w.0 w.1 w.2 w.3 w.4

-- ---- what a reader found

found_kind : (kind : TokenKind) (text rest : List ℕ) (b : Bool) → (found kind text (rest_if b rest)).0 ≡ cond b kind Fault
found_kind kind text rest true = refl
found_kind kind text rest false = refl

found_rest : (kind : TokenKind) (text rest : List ℕ) (b : Bool) → is_last (cond b kind Fault) ≡ false → (found kind text (rest_if b rest)).1 ≡ rest
found_rest kind text rest true l = refl
found_rest kind text rest false l = absurd (cc)

-- a reader of parts, as a reader of tokens
pub found_gives : (kind given : TokenKind) (bytes : List ℕ) (old new : RunningPlace) (b : Bool) → next (ahead old) ≡ found kind (ahead old) (rest_if b (ahead new)) → given ≡ cond b kind Fault → RunsOver bytes new
    → old.walk.offset ≤ new.walk.offset → Gives next bytes old given new
found_gives kind given bytes old new b is found runs forward = record {
  runs = runs;
  kind = ap (λ t. t.0) is ∙ found_kind kind (ahead old) (ahead new) b ∙ sym found;
  rest = λ l. ap (λ t. t.1) is ∙ found_rest kind (ahead old) (ahead new) b (ap is_last (sym found) ∙ l);
  forward = forward;
}
