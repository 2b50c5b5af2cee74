-- `is_numeral` tests whether a text is a number literal.
use Rattle.std.proofs.Common.{◌≡◌, ℕ, Bool, true, false, cond, ◌↔◌, eqb, List, [], ◌∷◌, ◌++◌, Option, Some, None, refl, sym, ap, ◌∙◌, append_assoc, arith, inl, inr, subst}
use Rattle.std.proofs.lemmas.Bool.Decides.{nat_tests}
use Rattle.std.proofs.lemmas.List.{append-nil}
use Rattle.std.specs.Char.{is_ascii_digit}
use Rattle.graphql_tokens.specs.tokens.Numbers.{AllDigits, AreDigits, is_minus, is_sign, is_e, IsOptional, IsWhole, IsFraction, IsExponent, IsNumber}
use Rattle.graphql_tokens.specs.inner.ByteClasses.{past_class}
use Rattle.graphql_tokens.specs.inner.Numerals.{past_optional, past_some_digits, past_whole, past_fraction, past_exponent, then_past, past_numeral, is_nothing, is_numeral}
use Rattle.graphql_tokens.proofs.Options.{some_same}

-- the text is a text of the set, and then the rest
pub record Takes (P : List ℕ → Type 0) (text rest : List ℕ) : Type 0 where
  pub part : List ℕ
  pub is : P part
  pub whole : text ≡ part ++ rest

-- ---- what is passed is in the set

optional_takes : (p : ℕ → Bool) (text : List ℕ) → Takes (IsOptional p) text (past_optional p text)
optional_takes p [] = record { part = []; is = inl refl; whole = refl }
optional_takes p (c ∷ cs) = by (p c) refl
  where
    by : (b : Bool) → p c ≡ b → Takes (IsOptional p) (c ∷ cs) (cond b cs (c ∷ cs))
    by true e = record { part = c ∷ []; is = inr (c, e, refl); whole = refl }
    by false e = record { part = []; is = inl refl; whole = refl }

all_cons : (c : ℕ) (cs : List ℕ) → Takes AllDigits cs (past_class is_ascii_digit cs) → (b : Bool) → is_ascii_digit c ≡ b → Takes AllDigits (c ∷ cs) (cond b (past_class is_ascii_digit cs) (c ∷ cs))
all_cons c cs t true e = record { part = c ∷ t.part; is = (e, t.is); whole = ap (λ x. c ∷ x) t.whole }
all_cons c cs t false e = record { part = []; is = tt; whole = refl }

all_takes : (text : List ℕ) → Takes AllDigits text (past_class is_ascii_digit text)
all_takes [] = record { part = []; is = tt; whole = refl }
all_takes (c ∷ cs) = all_cons c cs (all_takes cs) (is_ascii_digit c) refl

digits_takes : (text rest : List ℕ) → past_some_digits text ≡ Some rest → Takes AreDigits text rest
digits_takes [] rest e = absurd cc
digits_takes (c ∷ cs) rest e = by (is_ascii_digit c) refl e
  where
    by : (b : Bool) → is_ascii_digit c ≡ b → cond b (Some (past_class is_ascii_digit cs)) None ≡ Some rest → Takes AreDigits (c ∷ cs) rest
    by true d e = let t = all_takes cs in record { part = c ∷ t.part; is = (d, t.is); whole = ap (λ x. c ∷ x) t.whole ∙ ap (λ r. c ∷ (t.part ++ r)) (some_same (past_class is_ascii_digit cs) rest e) }
    by false d e = absurd cc

whole_takes : (text rest : List ℕ) → past_whole text ≡ Some rest → Takes IsWhole text rest
whole_takes [] rest e = absurd cc
whole_takes (c ∷ cs) rest e = by (eqb c 48) refl (is_ascii_digit c) refl e
  where
    by : (z : Bool) → eqb c 48 ≡ z → (b : Bool) → is_ascii_digit c ≡ b → cond z (Some cs) (cond b (Some (past_class is_ascii_digit cs)) None) ≡ Some rest → Takes IsWhole (c ∷ cs) rest
    by true z b d e = record { part = c ∷ []; is = inl (grind (arith, nat_tests), refl); whole = ap (λ r. c ∷ r) (some_same cs rest e) }
    by false z true d e = let t = all_takes cs in record { part = c ∷ t.part; is = inr (z, d, t.is); whole = ap (λ x. c ∷ x) t.whole ∙ ap (λ r. c ∷ (t.part ++ r)) (some_same (past_class is_ascii_digit cs) rest e) }
    by false z false d e = absurd cc

fraction_takes : (text rest : List ℕ) → past_fraction text ≡ Some rest → Takes IsFraction text rest
fraction_takes [] rest e = record { part = []; is = tt; whole = some_same [] rest e }
fraction_takes (c ∷ cs) rest e = by (eqb c 46) refl e
  where
    by : (b : Bool) → eqb c 46 ≡ b → cond b (past_some_digits cs) (Some (c ∷ cs)) ≡ Some rest → Takes IsFraction (c ∷ cs) rest
    by true d e = let t = digits_takes cs rest e in record { part = c ∷ t.part; is = (grind (arith, nat_tests), t.is); whole = ap (λ x. c ∷ x) t.whole }
    by false d e = record { part = []; is = tt; whole = some_same (c ∷ cs) rest e }

exponent_takes : (text rest : List ℕ) → past_exponent text ≡ Some rest → Takes IsExponent text rest
exponent_takes [] rest e = record { part = []; is = tt; whole = some_same [] rest e }
exponent_takes (c ∷ cs) rest e = by (is_e c) refl e
  where
    by : (b : Bool) → is_e c ≡ b → cond b (past_some_digits (past_optional is_sign cs)) (Some (c ∷ cs)) ≡ Some rest → Takes IsExponent (c ∷ cs) rest
    by true d e =
        let s = optional_takes is_sign cs in
        let t = digits_takes (past_optional is_sign cs) rest e in
        record {
          part = c ∷ (s.part ++ t.part);
          is = (d, (s.part, t.part, refl, s.is, t.is));
          whole = ap (λ x. c ∷ x) (s.whole ∙ ap (λ x. s.part ++ x) t.whole ∙ sym (append_assoc s.part t.part rest));
        }
    by false d e = record { part = []; is = tt; whole = some_same (c ∷ cs) rest e }

then_some : (r : Option (List ℕ)) (f : List ℕ → Option (List ℕ)) (rest : List ℕ) → then_past r f ≡ Some rest → (mid : List ℕ) × (r ≡ Some mid) × (f mid ≡ Some rest)
then_some None f rest e = absurd cc
then_some (Some mid) f rest e = (mid, refl, e)

-- what is passed is a number
pub numeral_takes : (text rest : List ℕ) → past_numeral text ≡ Some rest → Takes IsNumber text rest
numeral_takes text rest e =
    let c = then_some _ past_exponent rest e in
    let b = then_some _ past_fraction c.0 c.1 in
    let s = optional_takes is_minus text in
    let w = whole_takes (past_optional is_minus text) b.0 b.1 in
    let f = fraction_takes b.0 c.0 b.2 in
    let x = exponent_takes c.0 rest c.2 in
    record {
      part = s.part ++ (w.part ++ (f.part ++ x.part));
      is = (s.part, w.part, f.part, x.part, refl, s.is, w.is, f.is, x.is);
      whole = s.whole ∙ ap (λ y. s.part ++ y) (w.whole ∙ ap (λ y. w.part ++ y) (f.whole ∙ ap (λ y. f.part ++ y) x.whole))
          ∙ sym (simp append_assoc);
    }

-- ---- what is in the set is passed

-- the text doesn't begin with such a character
abbrev pub Heads : (ℕ → Bool) → List ℕ → Type 0
Heads p [] = Unit {0}
Heads p (c ∷ cs) = p c ≡ false

abbrev pub is_point : ℕ → Bool
is_point c = eqb c 46

optional_stays : (p : ℕ → Bool) (text : List ℕ) → Heads p text → past_optional p text ≡ text
optional_stays p [] h = refl
optional_stays p (c ∷ cs) h = ap (λ b. cond b cs (c ∷ cs)) h

optional_only : (p : ℕ → Bool) (w rest : List ℕ) → IsOptional p w → Heads p rest → past_optional p (w ++ rest) ≡ rest
optional_only p w rest (inl e) h = ap (λ x. past_optional p (x ++ rest)) e ∙ optional_stays p rest h
optional_only p w rest (inr s) h = ap (λ x. past_optional p (x ++ rest)) s.2 ∙ ap (λ b. cond b rest (s.0 ∷ rest)) s.1

all_stays : (text : List ℕ) → Heads is_ascii_digit text → past_class is_ascii_digit text ≡ text
all_stays [] h = refl
all_stays (c ∷ cs) h = ap (λ b. cond b (past_class is_ascii_digit cs) (c ∷ cs)) h

all_only : (w rest : List ℕ) → AllDigits w → Heads is_ascii_digit rest → past_class is_ascii_digit (w ++ rest) ≡ rest
all_only [] rest a h = all_stays rest h
all_only (c ∷ cs) rest a h = ap (λ b. cond b (past_class is_ascii_digit (cs ++ rest)) (c ∷ (cs ++ rest))) a.0 ∙ all_only cs rest a.1 h

digits_only : (w rest : List ℕ) → AreDigits w → Heads is_ascii_digit rest → past_some_digits (w ++ rest) ≡ Some rest
digits_only [] rest a h = absurd a
digits_only (c ∷ cs) rest a h = ap (λ b. cond b (Some (past_class is_ascii_digit (cs ++ rest))) None) a.0 ∙ ap (λ x. Some x) (all_only cs rest a.1 h)

whole_only : (w rest : List ℕ) → IsWhole w → Heads is_ascii_digit rest → past_whole (w ++ rest) ≡ Some rest
whole_only [] rest a h = absurd a
whole_only (c ∷ cs) rest (inl z) h =
    ap (λ d. past_whole (d ∷ (cs ++ rest))) z.0 ∙ ap (λ x. Some (x ++ rest)) z.1
whole_only (c ∷ cs) rest (inr n) h =
    ap (λ b. cond b (Some (cs ++ rest)) (past_some_digits (c ∷ (cs ++ rest)))) n.0 ∙ digits_only (c ∷ cs) rest (n.1, n.2) h

fraction_only : (w rest : List ℕ) → IsFraction w → Heads is_ascii_digit rest → Heads is_point rest → past_fraction (w ++ rest) ≡ Some rest
fraction_only [] [] a h p = refl
fraction_only [] (c ∷ cs) a h p = ap (λ b. cond b (past_some_digits cs) (Some (c ∷ cs))) p
fraction_only (c ∷ cs) rest a h p = ap (λ d. past_fraction (d ∷ (cs ++ rest))) a.0 ∙ digits_only cs rest a.1 h

digits_head : (w rest : List ℕ) → AreDigits w → Heads is_sign (w ++ rest)
digits_head [] rest a = absurd a
digits_head (c ∷ cs) rest a = let d = a.0 in grind (arith, nat_tests)

exponent_only : (w rest : List ℕ) → IsExponent w → Heads is_ascii_digit rest → Heads is_e rest → past_exponent (w ++ rest) ≡ Some rest
exponent_only [] [] a h p = refl
exponent_only [] (c ∷ cs) a h p = ap (λ b. cond b (past_some_digits (past_optional is_sign cs)) (Some (c ∷ cs))) p
exponent_only (c ∷ cs) rest a h p =
    let sign = a.1.0 in
    let digits = a.1.1 in
    let after : past_optional is_sign (cs ++ rest) ≡ digits ++ rest =
    ap (λ x. past_optional is_sign (x ++ rest)) a.1.2 ∙ ap (past_optional is_sign) (append_assoc sign digits rest)
    ∙ optional_only is_sign sign (digits ++ rest) a.1.3 (digits_head digits rest a.1.4) in
    ap (λ b. cond b (past_some_digits (past_optional is_sign (cs ++ rest))) (Some (c ∷ (cs ++ rest)))) a.0
    ∙ ap past_some_digits after ∙ digits_only digits rest a.1.4 h

exponent_heads : (w rest : List ℕ) → IsExponent w → Heads is_ascii_digit rest → Heads is_point rest → Heads is_ascii_digit (w ++ rest) × Heads is_point (w ++ rest)
exponent_heads [] rest a h p = (h, p)
exponent_heads (c ∷ cs) rest a h p = let e = a.0 in (grind (arith, nat_tests), grind (arith, nat_tests))

fraction_heads : (w rest : List ℕ) → IsFraction w → Heads is_ascii_digit rest → Heads is_ascii_digit (w ++ rest)
fraction_heads [] rest a h = h
fraction_heads (c ∷ cs) rest a h = ap is_ascii_digit a.0

whole_heads : (w rest : List ℕ) → IsWhole w → Heads is_minus (w ++ rest)
whole_heads [] rest a = absurd a
whole_heads (c ∷ cs) rest (inl z) = ap is_minus z.0
whole_heads (c ∷ cs) rest (inr n) = let d = n.1 in grind (arith, nat_tests)

-- a number is passed, and nothing of it is left
pub numeral_only : (w rest : List ℕ) → IsNumber w → Heads is_ascii_digit rest → Heads is_point rest → Heads is_e rest → past_numeral (w ++ rest) ≡ Some rest
numeral_only w rest n h p k =
    let sign = n.0 in
    let whole = n.1 in
    let fraction = n.2 in
    let exponent = n.3 in
    let x = exponent_heads exponent rest n.8 h p in
    let f = fraction_heads fraction (exponent ++ rest) n.7 x.0 in
    let all : w ++ rest ≡ sign ++ (whole ++ (fraction ++ (exponent ++ rest))) = ap (λ y. y ++ rest) n.4 ∙ simp append_assoc in
    let one : past_optional is_minus (w ++ rest) ≡ whole ++ (fraction ++ (exponent ++ rest)) =
    ap (past_optional is_minus) all ∙ optional_only is_minus sign _ n.5 (whole_heads whole _ n.6) in
    rw (one, whole_only whole _ n.6 f, fraction_only fraction _ n.7 x.0 x.1, exponent_only exponent rest n.8 h k) refl

nothing_left : (r : Option (List ℕ)) → is_nothing r ≡ true → r ≡ Some []
nothing_left None e = absurd cc
nothing_left (Some []) e = refl
nothing_left (Some (c ∷ cs)) e = absurd cc

numeral_is : (text : List ℕ) → Takes IsNumber text [] → IsNumber text
numeral_is text t = subst IsNumber (sym (t.whole ∙ append-nil t.part)) t.is

pub is_numeral-is : (text : List ℕ) → is_numeral text ≡ true ↔ IsNumber text
is_numeral-is text = (
  λ e. numeral_is text (numeral_takes text [] (nothing_left (past_numeral text) e)),
  λ n. ap is_nothing (ap past_numeral (sym (append-nil text)) ∙ numeral_only text [] n tt tt tt),
)
