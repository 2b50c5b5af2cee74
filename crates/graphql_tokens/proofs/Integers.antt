-- What `parse` reads of a number literal is the integer that the literal stands for.
use Rattle.std.proofs.Common.{◌≡◌, ◌≢◌, ℕ, suc, zero, ◌-◌, ◌^◌, ◌<◌, ◌≤◌, true, ℤ, pos, neg_ℤ, IfSome, IfNone, List, [], ◌∷◌, ◌++◌, length, get_or, Option, Result, Ok, Err, refl, sym, ap, ◌∙◌, arith, inl, inr, subst, w64}
use Rattle.std.proofs.lemmas.Bool.Decides.{nat_tests}
use Rattle.std.proofs.lemmas.List.{append-nil}
use Rattle.std.proofs.Math.Nat.{mul-pos}
use Rattle.std.proofs.lemmas.Str.Parse.{IsNumeralModel, IsDigitsTest, WeighsDigits, numerals_by_weight, parse_plain, parse_signed_plain, parse_signed_minus}
use Rattle.std.specs.Char.{is_ascii_digit}
use Rattle.std.specs.Int.{IsInRange}
use Rattle.std.specs.Result.{OkIff, result_ok}
use Rattle.std.specs.Str.Parse.{ParsesUnsigned, ParsesSigned}
use mir.Val.{SFits as FitsSigned, hbits}
use Rattle.graphql_tokens.specs.tokens.Numbers.{AllDigits, is_minus, IsWhole, IsFraction, IsExponent, IsNumber}
use Rattle.graphql_tokens.specs.calls.Integers.{decimal_value, signed, IsIntegerOf}

-- ---- digits and their value, in std's words

in_range : (c : ℕ) → is_ascii_digit c ≡ true → IsInRange 48 57 c
in_range c d = grind (arith, nat_tests)

digit : (c : ℕ) → IsInRange 48 57 c → is_ascii_digit c ≡ true
digit c r = grind (arith, nat_tests)

tells : IsDigitsTest AllDigits
tells = record { empty = tt; parts = λ c cs a. (in_range c a.0, a.1); more = λ c cs r a. (digit c r, a) }

weighs : WeighsDigits decimal_value
weighs = record { empty = refl; more = λ c cs r. refl }

own : IsNumeralModel AllDigits decimal_value
own = numerals_by_weight AllDigits tells decimal_value weighs

-- ---- whole digits

whole_all : (w : List ℕ) → IsWhole w → AllDigits w
whole_all [] a = absurd a
whole_all (c ∷ cs) (inl z) = (ap is_ascii_digit z.0, subst AllDigits (sym z.1) tt)
whole_all (c ∷ cs) (inr n) = (n.1, n.2)

whole_some : (w : List ℕ) → IsWhole w → 0 < length w
whole_some [] a = absurd a
whole_some (c ∷ cs) a = omega arith

-- it begins with no sign
whole_head : (w rest : List ℕ) → IsWhole w → (get_or (w ++ rest) 0 0 ≢ 43) × (get_or (w ++ rest) 0 0 ≢ 45)
whole_head [] rest a = absurd a
whole_head (c ∷ cs) rest a = let d = in_range c (whole_all (c ∷ cs) a).0 in (λ e. omega arith, λ e. omega arith)

-- the parts of a number after its sign
record Parts : Type 0 where
  pub whole : List ℕ
  pub fraction : List ℕ
  pub exponent : List ℕ
  pub whole_is : IsWhole whole
  pub fraction_is : IsFraction fraction
  pub exponent_is : IsExponent exponent

abbrev parts_of : (w : List ℕ) → IsNumber w → Parts
parts_of w n = record { whole = n.1; fraction = n.2; exponent = n.3; whole_is = n.6; fraction_is = n.7; exponent_is = n.8 }

-- ---- where all is digits, there is no fraction and no exponent

all_front : (u v : List ℕ) → AllDigits (u ++ v) → AllDigits v
all_front [] v a = a
all_front (c ∷ cs) v a = all_front cs v a.1

no_exponent : (w : List ℕ) → IsExponent w → AllDigits w → w ≡ []
no_exponent [] x a = refl
no_exponent (c ∷ cs) x a = let e = x.0 in let d = a.0 in absurd (grind (arith, nat_tests))

no_fraction : (w rest : List ℕ) → IsFraction w → AllDigits (w ++ rest) → w ≡ []
no_fraction [] rest f a = refl
no_fraction (c ∷ cs) rest f a = let e = f.0 in let d = a.0 in absurd (grind (arith, nat_tests))

alone : (whole fraction exponent : List ℕ) → IsFraction fraction → IsExponent exponent → AllDigits (whole ++ (fraction ++ exponent)) → whole ++ (fraction ++ exponent) ≡ whole
alone whole fraction exponent f x a =
    let back = all_front whole (fraction ++ exponent) a in
    let none = no_fraction fraction exponent f back in
    let last = no_exponent exponent x (all_front fraction exponent back) in
    ap (λ y. whole ++ (y ++ exponent)) none ∙ ap (λ y. whole ++ y) last ∙ append-nil whole

bare_head : (w : List ℕ) → IsWhole w → (get_or w 0 0 ≢ 43) × (get_or w 0 0 ≢ 45)
bare_head w a = subst (λ y. (get_or y 0 0 ≢ 43) × (get_or y 0 0 ≢ 45)) (append-nil w) (whole_head w [] a)

-- ---- what an answer says

module _ {T E : Type 0} where
  ok_is : (r : Result T E) (x : T) (P : Type 0) (v : T) → r ≡ Ok x → OkIff r P v → P × (x ≡ v)
  ok_is r x P v e h = subst (λ (s : Result T E). OkIff s P v) e h

  err_is : (r : Result T E) (x : E) (P : Type 0) (v : T) → r ≡ Err x → OkIff r P v → ¬ P
  err_is r x P v e h = subst (λ (s : Result T E). OkIff s P v) e h

  -- of the value of an answer, and of an answer without one
  pub ok_some : (P : T → Type 0) (o : Option T) (r : Result T E) → o ≡ result_ok r → ((x : T) → r ≡ Ok x → P x) → IfSome o P
  ok_some P o (Ok x) e f = subst (λ y. IfSome y P) (sym e) (f x refl)
  ok_some P o (Err x) e f = subst (λ y. IfSome y P) (sym e) tt

  pub err_none : (Q : Type 0) (o : Option T) (r : Result T E) → o ≡ result_ok r → ((x : E) → r ≡ Err x → Q) → IfNone o Q
  err_none Q o (Ok x) e f = subst (λ y. IfNone y Q) (sym e) tt
  err_none Q o (Err x) e f = subst (λ y. IfNone y Q) (sym e) (f x refl)

-- ---- `i64`

fits_negative : (n : ℕ) → FitsSigned w64 (neg_ℤ (pos n)) → n ≤ 2 ^ hbits w64
fits_negative zero h = omega arith
fits_negative (suc n) h = h.sfits

minus_head : (c : ℕ) (rest : List ℕ) → is_minus c ≡ true → get_or (c ∷ rest) 0 0 ≡ 45
minus_head c rest e = grind (arith, nat_tests)

-- a number's parts after its sign, joined
abbrev body : Parts → List ℕ
body n = n.whole ++ (n.fraction ++ n.exponent)

module _ {E : Type 0} where
  plain_some : (n : Parts) (r : Result ℤ E) → ParsesSigned w64 10 (body n) r → (z : ℤ) → r ≡ Ok z → IsIntegerOf (body n) z
  plain_some n r h z e =
      let no = whole_head n.whole (n.fraction ++ n.exponent) n.whole_is in
      let o = ok_is r z _ _ e (parse_signed_plain own w64 (body n) r h no.0 no.1) in
      let same = alone n.whole n.fraction n.exponent n.fraction_is n.exponent_is o.0.0 in
      record {
        sign = [];
        whole = n.whole;
        spelled = same;
        sign_is = inl refl;
        whole_is = n.whole_is;
        value_is = o.1 ∙ ap (λ y. pos (decimal_value y)) same;
      }

  minus_some : (n : Parts) (c : ℕ) → is_minus c ≡ true → (r : Result ℤ E) → ParsesSigned w64 10 (c ∷ body n) r → (z : ℤ) → r ≡ Ok z → IsIntegerOf (c ∷ body n) z
  minus_some n c m r h z e =
      let o = ok_is r z _ _ e (parse_signed_minus own w64 (c ∷ body n) r h (minus_head c (body n) m)) in
      let same = alone n.whole n.fraction n.exponent n.fraction_is n.exponent_is o.0.0 in
      record {
        sign = c ∷ [];
        whole = n.whole;
        spelled = ap (λ y. c ∷ y) same;
        sign_is = inr (c, m, refl);
        whole_is = n.whole_is;
        value_is = o.1 ∙ ap (λ y. neg_ℤ (pos (decimal_value y))) same;
      }

  pub signed_some : (w : List ℕ) (r : Result ℤ E) → ParsesSigned w64 10 w r → IsNumber w → (z : ℤ) → r ≡ Ok z → IsIntegerOf w z
  signed_some w r h n z e =
      let at = parts_of w n in
      elim n.5 [
        | inl s ↦
            let w-is : w ≡ body at = n.4 ∙ ap (λ y. y ++ body at) s in
            subst (λ y. IsIntegerOf y z) (sym w-is) (plain_some at r (subst (λ y. ParsesSigned w64 10 y r) w-is h) z e)
        | inr s ↦
            let w-is : w ≡ s.0 ∷ body at = n.4 ∙ ap (λ y. y ++ body at) s.2 in
            subst (λ y. IsIntegerOf y z) (sym w-is) (minus_some at s.0 s.1 r (subst (λ y. ParsesSigned w64 10 y r) w-is h) z e)
      ]

  pub signed_none : (w : List ℕ) (r : Result ℤ E) → ParsesSigned w64 10 w r → (x : E) → r ≡ Err x → (z : ℤ) → IsIntegerOf w z → ¬ FitsSigned w64 z
  signed_none w r h x e z i f =
      elim i.sign_is [
        | inl s ↦
            let w-is : w ≡ i.whole = i.spelled ∙ ap (λ y. y ++ i.whole) s in
            let z-is : z ≡ pos (decimal_value i.whole) = i.value_is ∙ ap (λ y. signed y (decimal_value i.whole)) s in
            let no = bare_head i.whole i.whole_is in
            err_is r x _ _ e (parse_signed_plain own w64 i.whole r (subst (λ y. ParsesSigned w64 10 y r) w-is h) no.0 no.1)
            (whole_all i.whole i.whole_is, whole_some i.whole i.whole_is, (subst (FitsSigned w64) z-is f).sfits)
        | inr s ↦
            let w-is : w ≡ s.0 ∷ i.whole = i.spelled ∙ ap (λ y. y ++ i.whole) s.2 in
            let z-is : z ≡ neg_ℤ (pos (decimal_value i.whole)) = i.value_is ∙ ap (λ y. signed y (decimal_value i.whole)) s.2 in
            err_is r x _ _ e (parse_signed_minus own w64 (s.0 ∷ i.whole) r (subst (λ y. ParsesSigned w64 10 y r) w-is h) (minus_head s.0 i.whole s.1))
            (whole_all i.whole i.whole_is, whole_some i.whole i.whole_is, fits_negative (decimal_value i.whole) (subst (FitsSigned w64) z-is f))
      ]

-- ---- `u64`

pos_same : (m n : ℕ) → pos m ≡ pos n → m ≡ n
pos_same m n e = cc

not_negative : (m n : ℕ) → pos m ≡ neg_ℤ (pos n) → (m ≡ 0) × (n ≡ 0)
not_negative m zero e = (pos_same m 0 e, refl)
not_negative m (suc n) e = absurd cc

at_least : (n m : ℕ) → (n < m → ⊥) → m ≤ n
at_least n m f = omega (arith, f)

ten_pos : (k : ℕ) → 0 < 10 ^ k
ten_pos zero = omega arith
ten_pos (suc k) = omega (arith, ten_pos k)

-- whole digits of the value 0 are `0`
zero_is : (w : List ℕ) → IsWhole w → decimal_value w ≡ 0 → w ≡ 48 ∷ []
zero_is [] a e = absurd a
zero_is (c ∷ cs) (inl z) e = ap (λ y. y ∷ cs) z.0 ∙ ap (λ y. 48 ∷ y) z.1
zero_is (c ∷ cs) (inr n) e =
    let d = n.1 in
    let z = n.0 in
    let first : 0 < c - 48 = grind (arith, nat_tests) in
    absurd (omega (arith, mul-pos first (ten_pos (length cs))))

module _ {E : Type 0} where
  pub unsigned_some : (w : List ℕ) (r : Result ℕ E) → ParsesUnsigned 64 10 w r → IsNumber w → (m : ℕ) → r ≡ Ok m → IsIntegerOf w (pos m)
  unsigned_some w r h n m e =
      let at = parts_of w n in
      elim n.5 [
        | inl s ↦
            let w-is : w ≡ body at = n.4 ∙ ap (λ y. y ++ body at) s in
            let no = whole_head at.whole (at.fraction ++ at.exponent) at.whole_is in
            let o = ok_is r m _ _ e (parse_plain own 64 (body at) r (subst (λ y. ParsesUnsigned 64 10 y r) w-is h) no.0) in
            let same = alone at.whole at.fraction at.exponent at.fraction_is at.exponent_is o.0.0 in
            record {
              sign = [];
              whole = at.whole;
              spelled = w-is ∙ same;
              sign_is = inl refl;
              whole_is = at.whole_is;
              value_is = ap pos (o.1 ∙ ap decimal_value same);
            }
        | inr s ↦
            let w-is : w ≡ s.0 ∷ body at = n.4 ∙ ap (λ y. y ++ body at) s.2 in
            let head = minus_head s.0 (body at) s.1 in
            let o = ok_is r m _ _ e (parse_plain own 64 (s.0 ∷ body at) r (subst (λ y. ParsesUnsigned 64 10 y r) w-is h) (λ k. omega arith)) in
            let d = in_range s.0 o.0.0.0 in
            absurd (omega arith)
      ]

  pub unsigned_none : (w : List ℕ) (r : Result ℕ E) → ParsesUnsigned 64 10 w r → (x : E) → r ≡ Err x → w ≢ 45 ∷ 48 ∷ [] → (m : ℕ) → IsIntegerOf w (pos m) → 2 ^ 64 ≤ m
  unsigned_none w r h x e not m i =
      elim i.sign_is [
        | inl s ↦
            let w-is : w ≡ i.whole = i.spelled ∙ ap (λ y. y ++ i.whole) s in
            let m-is : m ≡ decimal_value i.whole = pos_same _ _ (i.value_is ∙ ap (λ y. signed y (decimal_value i.whole)) s) in
            let no = bare_head i.whole i.whole_is in
            at_least m (2 ^ 64) (λ k. err_is r x _ _ e (parse_plain own 64 i.whole r (subst (λ y. ParsesUnsigned 64 10 y r) w-is h) no.0)
            (whole_all i.whole i.whole_is, whole_some i.whole i.whole_is, subst (λ y. y < 2 ^ 64) m-is k))
        | inr s ↦
            let w-is : w ≡ s.0 ∷ i.whole = i.spelled ∙ ap (λ y. y ++ i.whole) s.2 in
            let none = not_negative m (decimal_value i.whole) (i.value_is ∙ ap (λ y. signed y (decimal_value i.whole)) s.2) in
            let minus : s.0 ≡ 45 = minus_head s.0 [] s.1 in
            absurd (not (w-is ∙ ap (λ y. y ∷ i.whole) minus ∙ ap (λ y. 45 ∷ y) (zero_is i.whole i.whole_is none.1)))
      ]
