-- `content_value` gives what `StringMeans` relates to a content, and nothing else. Public: the crates above cite the
-- lemmas `content_means`, `means_content` and `content_none`.
use Rattle.std.proofs.Common.{◌≡◌, ℕ, zero, suc, ◌≤◌, Bool, true, false, cond, List, [], ◌∷◌, ◌++◌, length, drop, Option, Some, None, refl, sym, ap, ◌∙◌, subst, inl, inr, arith, length-append}
use Rattle.std.proofs.Math.Seq.{drop-append_seam}
use Rattle.std.specs.List.{concat}
use Rattle.graphql_tokens.specs.tokens.Edition.{Current}
use Rattle.graphql_tokens.specs.tokens.Strings.{is_plain, UnitMeans, UnitsMean, StringMeans}
use Rattle.graphql_tokens.specs.inner.Escapes.{escape_at}
use Rattle.graphql_tokens.specs.inner.Contents.{onto, with_escape, content_from, content_value}
use Rattle.graphql_tokens.proofs.EscapeUnits.{EscapeMeans, escape_reads, escape_found}
use Rattle.graphql_tokens.proofs.Contents.{escape_front}

-- ---- what is found, the relation says

means_front : (unit rest value : List ℕ) (c : ℕ) → UnitMeans Current unit c → StringMeans Current rest value → StringMeans Current (unit ++ rest) (c ∷ value)
means_front unit rest value c m s = (unit ∷ s.0, ap (λ x. unit ++ x) s.1, (m, s.2))

-- the value begins with the character, and goes on with the value of the rest
onto_is : (c : ℕ) (o : Option (List ℕ)) (value : List ℕ) → onto c o ≡ Some value → (after : List ℕ) × (o ≡ Some after) × ((c ∷ after) ≡ value)
onto_is c None value e = absurd (cc)
onto_is c (Some cs) value e = (cs, refl, cc)

means_onto : (unit rest value : List ℕ) (c : ℕ) (o : Option (List ℕ)) → UnitMeans Current unit c → ((v : List ℕ) → o ≡ Some v → StringMeans Current rest v)
    → onto c o ≡ Some value → StringMeans Current (unit ++ rest) value
means_onto unit rest value c o m f e =
    let b = onto_is c o value e in
    subst (StringMeans Current (unit ++ rest)) b.2 (means_front unit rest b.0 c m (f b.0 b.1))

means_from : (n : ℕ) (content value : List ℕ) → content_from n content ≡ Some value → StringMeans Current content value
means_from n [] value e = let is : [] ≡ value = cc in subst (StringMeans Current []) is ([], refl, tt)
means_from zero (c ∷ cs) value e = absurd (cc)
means_from (suc n) (c ∷ cs) value e = by (is_plain c) refl (λ content value e. means_from n content value e) e
  where
    Follows : Type 0
    Follows = (content value : List ℕ) → content_from n content ≡ Some value → StringMeans Current content value

    escaped : (o : Option (ℕ × ℕ)) → escape_at (c ∷ cs) ≡ o → Follows → with_escape (content_from n) (c ∷ cs) o ≡ Some value → StringMeans Current (c ∷ cs) value
    escaped None g ih e = absurd (cc)
    escaped (Some x) g ih e =
        let f = escape_found (c ∷ cs) x.0 x.1 g in
        let after : drop x.1 (c ∷ cs) ≡ f.rest = ap (λ k. drop k (c ∷ cs)) (sym f.long) ∙ ap (drop (length f.unit)) f.whole ∙ drop-append_seam f.unit f.rest in
        let read : onto x.0 (content_from n f.rest) ≡ Some value = ap (λ t. onto x.0 (content_from n t)) (sym after) ∙ e in
        subst (λ (t : List ℕ). StringMeans Current t value) (sym f.whole)
        (means_onto f.unit f.rest value x.0 (content_from n f.rest) (inr f.means) (ih f.rest) read)

    by : (b : Bool) → is_plain c ≡ b → Follows → cond b (onto c (content_from n cs)) (with_escape (content_from n) (c ∷ cs) (escape_at (c ∷ cs))) ≡ Some value → StringMeans Current (c ∷ cs) value
    by true p ih e = means_onto (c ∷ []) cs value c (content_from n cs) (inl (refl, p)) (ih cs) e
    by false p ih e = escaped (escape_at (c ∷ cs)) refl ih e

-- the value that the function gives is one that the relation has
pub content_means : (content value : List ℕ) → content_value content ≡ Some value → StringMeans Current content value
unfolding content_value
content_means content value e = means_from (length content) content value e

-- ---- and what it says is found

plain_step : (n c : ℕ) (cs : List ℕ) → is_plain c ≡ true → content_from (suc n) (c ∷ cs) ≡ onto c (content_from n cs)
plain_step n c cs p = ap (λ b. cond b (onto c (content_from n cs)) (with_escape (content_from n) (c ∷ cs) (escape_at (c ∷ cs)))) p

escape_step : (n c : ℕ) (unit rest : List ℕ) → EscapeMeans unit c → content_from (suc n) (unit ++ rest) ≡ onto c (content_from n rest)
escape_step n c unit rest m =
    let f = escape_front unit c m in
    let begin : unit ++ rest ≡ 92 ∷ (f.0 ++ rest) = ap (λ x. x ++ rest) f.1 in
    ap (content_from (suc n)) begin
    ∙ ap (λ t. with_escape (content_from n) t (escape_at t)) (sym begin)
    ∙ ap (with_escape (content_from n) (unit ++ rest)) (escape_reads unit rest c m)
    ∙ ap (λ t. onto c (content_from n t)) (drop-append_seam unit rest)

unit_step : (n c : ℕ) (unit rest : List ℕ) → UnitMeans Current unit c → content_from (suc n) (unit ++ rest) ≡ onto c (content_from n rest)
unit_step n c unit rest (inl m) = ap (λ u. content_from (suc n) (u ++ rest)) m.0 ∙ plain_step n c rest m.1
unit_step n c unit rest (inr m) = escape_step n c unit rest m

unit_some : (unit : List ℕ) (c : ℕ) → UnitMeans Current unit c → 1 ≤ length unit
unit_some unit c (inl m) = omega (arith, ap length m.0)
unit_some unit c (inr m) = omega (arith, ap length (escape_front unit c m).1)

from_units : (n : ℕ) (units : List (List ℕ)) (value : List ℕ) → UnitsMean Current units value → length (concat units) ≤ n → content_from n (concat units) ≡ Some value
from_units n [] [] m h = refl
from_units n [] (c ∷ cs) m h = absurd m
from_units n (u ∷ us) [] m h = absurd m
from_units zero (u ∷ us) (c ∷ cs) m h = absurd (omega (arith, unit_some u c m.0, length-append u (concat us)))
from_units (suc n) (u ∷ us) (c ∷ cs) m h =
    let short : length (concat us) ≤ n = omega (arith, unit_some u c m.0, length-append u (concat us)) in
    unit_step n c u (concat us) m.0 ∙ ap (onto c) (from_units n us cs m.1 short)

-- and the one that the relation has is given
pub means_content : (content value : List ℕ) → StringMeans Current content value → content_value content ≡ Some value
unfolding content_value
means_content content value m =
    ap (λ t. content_from (length t) t) m.1 ∙ from_units (length (concat m.0)) m.0 value m.2 (omega arith)
