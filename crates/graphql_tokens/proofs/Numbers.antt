-- `past_number` passes numbers that may end where they do, and all of them.
use Rattle.std.proofs.Common.{◌≡◌, ℕ, Bool, true, false, cond, eqb, List, [], ◌∷◌, ◌++◌, Option, Some, None, refl, sym, ap, ◌∙◌, arith, inl, inr, subst}
use Rattle.std.proofs.lemmas.Bool.Decides.{nat_tests}
use Rattle.std.specs.Char.{is_ascii_digit}
use Rattle.graphql_tokens.specs.tokens.Classes.{is_ignored, is_punct, is_name_start}
use Rattle.graphql_tokens.specs.tokens.Numbers.{is_minus, is_e, IsOptional, IsWhole, IsNumber, forbids_number}
use Rattle.graphql_tokens.specs.inner.ByteClasses.{begins_number}
use Rattle.graphql_tokens.specs.inner.Numerals.{past_optional, past_whole, past_fraction, past_exponent, then_past, past_numeral}
use Rattle.graphql_tokens.specs.inner.Numbers.{unless_forbidden, past_number}
use Rattle.graphql_tokens.specs.inner.Reading.{past_char}
use Rattle.graphql_tokens.specs.inner.Lexing.{rest_if}
use Rattle.graphql_tokens.proofs.Options.{some_same}
use Rattle.graphql_tokens.proofs.Numerals.{numeral_takes, Heads, is_point, numeral_only}

-- what follows a number allows it
abbrev pub Allows : List ℕ → Type 0
Allows rest = Heads forbids_number rest

allowed : (text rest : List ℕ) → unless_forbidden text ≡ Some rest → (text ≡ rest) × Allows rest
allowed [] rest e = let s = some_same [] rest e in (s, subst Allows s tt)
allowed (c ∷ cs) rest e = by (forbids_number c) refl e
  where
    by : (b : Bool) → forbids_number c ≡ b → cond b None (Some (c ∷ cs)) ≡ Some rest → ((c ∷ cs) ≡ rest) × Allows rest
    by true d e = absurd cc
    by false d e = let s = some_same (c ∷ cs) rest e in (s, subst Allows s d)

then_some : (r : Option (List ℕ)) (f : List ℕ → Option (List ℕ)) (rest : List ℕ) → then_past r f ≡ Some rest → (mid : List ℕ) × (r ≡ Some mid) × (f mid ≡ Some rest)
then_some None f rest e = absurd cc
then_some (Some mid) f rest e = (mid, refl, e)

pub record NumberBefore (text rest : List ℕ) : Type 0 where
  pub word : List ℕ
  pub number : IsNumber word
  pub whole : text ≡ word ++ rest
  pub allows : Allows rest

pub number_is : (text rest : List ℕ) → past_number text ≡ Some rest → NumberBefore text rest
unfolding past_number
number_is text rest e =
    let s = then_some (past_numeral text) unless_forbidden rest e in
    let t = numeral_takes text s.0 s.1 in
    let a = allowed s.0 rest s.2 in
    record { word = t.part; number = t.is; whole = t.whole ∙ ap (λ x. t.part ++ x) a.0; allows = a.1 }

allows_heads : (rest : List ℕ) → Allows rest → Heads is_ascii_digit rest × Heads is_point rest × Heads is_e rest
allows_heads [] a = (tt, tt, tt)
allows_heads (c ∷ cs) a = (grind (arith, nat_tests), grind (arith, nat_tests), grind (arith, nat_tests))

allowed_only : (rest : List ℕ) → Allows rest → unless_forbidden rest ≡ Some rest
allowed_only [] a = refl
allowed_only (c ∷ cs) a = ap (λ b. cond b None (Some (c ∷ cs))) a

pub number_only : (w rest : List ℕ) → IsNumber w → Allows rest → past_number (w ++ rest) ≡ Some rest
unfolding past_number
number_only w rest n a =
    let h = allows_heads rest a in
    ap (λ r. then_past r unless_forbidden) (numeral_only w rest n h.0 h.1 h.2) ∙ allowed_only rest a

-- ---- the first character

pub record BeginsNumber (w : List ℕ) : Type 0 where
  pub first : ℕ
  pub more : List ℕ
  pub is : w ≡ first ∷ more
  pub begins : begins_number first ≡ true

whole_head : (w rest : List ℕ) → IsWhole w → BeginsNumber (w ++ rest)
whole_head [] rest h = absurd h
whole_head (c ∷ cs) rest (inl z) = record { first = c; more = cs ++ rest; is = refl; begins = ap begins_number z.0 }
whole_head (c ∷ cs) rest (inr d) = let h = d.1 in record { first = c; more = cs ++ rest; is = refl; begins = grind (arith, nat_tests) }

pub number_head : (w : List ℕ) → IsNumber w → BeginsNumber w
number_head w n = by n.5
  where
    by : IsOptional is_minus n.0 → BeginsNumber w
    by (inl e) = subst BeginsNumber (sym (n.4 ∙ ap (λ x. x ++ (n.1 ++ (n.2 ++ n.3))) e)) (whole_head n.1 (n.2 ++ n.3) n.6)
    by (inr s) =
        let m = s.1 in
        record { first = s.0; more = n.1 ++ (n.2 ++ n.3); is = n.4 ∙ ap (λ x. x ++ (n.1 ++ (n.2 ++ n.3))) s.2; begins = grind (arith, nat_tests) }

pub number_alone : (c : ℕ) → begins_number c ≡ true → (is_punct c ≡ false) × (is_name_start c ≡ false) × (eqb c 34 ≡ false) × (is_ignored c ≡ false) × (c ≡ 35 → ⊥)
number_alone c h = (grind (arith, nat_tests), grind (arith, nat_tests), grind (arith, nat_tests), grind (arith, nat_tests), λ e. grind (arith, nat_tests))

-- ---- a reader that goes on from part to part

pub optional_by : (d : ℕ) (text rest : List ℕ) (b : Bool) → past_char d text ≡ rest_if b rest → (b ≡ false → rest ≡ text) → past_optional (λ c. eqb c d) text ≡ rest
optional_by d [] rest true e stays = absurd (cc)
optional_by d [] rest false e stays = sym (stays refl)
optional_by d (c ∷ cs) rest b e stays = by (eqb c d) b e stays
  where
    by : (t : Bool) → (b : Bool) → cond t (Some cs) None ≡ rest_if b rest → (b ≡ false → rest ≡ (c ∷ cs)) → cond t cs (c ∷ cs) ≡ rest
    by true true e stays = some_same cs rest e
    by true false e stays = absurd (cc)
    by false true e stays = absurd (cc)
    by false false e stays = sym (stays refl)

pub whole_fails : (t0 t1 : List ℕ) → past_optional is_minus t0 ≡ t1 → past_whole t1 ≡ None → past_number t0 ≡ None
unfolding past_number
whole_fails t0 t1 m w =
    ap (λ t. then_past (then_past (then_past (past_whole t) past_fraction) past_exponent) unless_forbidden) m
    ∙ ap (λ r. then_past (then_past (then_past r past_fraction) past_exponent) unless_forbidden) w

pub fraction_next : (t0 t1 t2 : List ℕ) → past_optional is_minus t0 ≡ t1 → past_whole t1 ≡ Some t2 → past_number t0 ≡ then_past (then_past (past_fraction t2) past_exponent) unless_forbidden
unfolding past_number
fraction_next t0 t1 t2 m w =
    ap (λ t. then_past (then_past (then_past (past_whole t) past_fraction) past_exponent) unless_forbidden) m
    ∙ ap (λ r. then_past (then_past (then_past r past_fraction) past_exponent) unless_forbidden) w

pub fraction_fails : (t0 t1 t2 : List ℕ) → past_optional is_minus t0 ≡ t1 → past_whole t1 ≡ Some t2 → past_fraction t2 ≡ None → past_number t0 ≡ None
fraction_fails t0 t1 t2 m w f = fraction_next t0 t1 t2 m w ∙ ap (λ r. then_past (then_past r past_exponent) unless_forbidden) f

pub exponent_next : (t0 t1 t2 t3 : List ℕ) (r : Option (List ℕ)) → past_optional is_minus t0 ≡ t1 → past_whole t1 ≡ Some t2 → past_fraction t2 ≡ Some t3 → past_exponent t3 ≡ r → past_number t0 ≡ then_past r unless_forbidden
exponent_next t0 t1 t2 t3 r m w f e =
    fraction_next t0 t1 t2 m w ∙ ap (λ o. then_past (then_past o past_exponent) unless_forbidden) f ∙ ap (λ o. then_past o unless_forbidden) e
