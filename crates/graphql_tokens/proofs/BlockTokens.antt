-- `past_block` passes raw texts of block strings with their closing quotes, and all of them.
use Rattle.std.proofs.Common.{◌≡◌, ℕ, zero, suc, ◌≤◌, ◌<◌, Bool, true, false, cond, ◌&&◌, eqb, List, [], ◌∷◌, ◌++◌, length, drop, get_or, Some, None, refl, sym, ap, ◌∙◌, append_assoc, arith, inl, inr, subst, length-append}
use Rattle.std.proofs.lemmas.Bool.Decides.{nat_tests}
use Rattle.std.specs.List.{concat}
use Rattle.graphql_tokens.specs.tokens.BlockText.{begins_quotes}
use Rattle.graphql_tokens.specs.tokens.Blocks.{closes, IsBlockUnit, AreBlockUnits}
use Rattle.graphql_tokens.specs.inner.Quoted.{past_block_from, past_block, quotes, NoQuote, IsRunOfQuotes}
use Rattle.graphql_tokens.proofs.Options.{some_same, counts_down}

-- ---- steps

pub block_end : (text : List ℕ) → text ≡ [] → past_block text ≡ None
unfolding past_block
block_end text e = ap (past_block_from 0) e

pub block_closes : (c : ℕ) (cs : List ℕ) → closes (c ∷ cs) ≡ true → past_block (c ∷ cs) ≡ Some (drop 2 cs)
unfolding past_block
block_closes c cs h = ap (λ b. cond b (Some (drop 2 cs)) (past_block_from (cond (begins_quotes (c ∷ cs)) 3 0) cs)) h

pub block_quotes : (c : ℕ) (cs : List ℕ) → closes (c ∷ cs) ≡ false → begins_quotes (c ∷ cs) ≡ true → past_block (c ∷ cs) ≡ past_block (drop 3 cs)
unfolding past_block
block_quotes c cs h q =
    ap (λ b. cond b (Some (drop 2 cs)) (past_block_from (cond (begins_quotes (c ∷ cs)) 3 0) cs)) h
    ∙ ap (λ b. past_block_from (cond b 3 0) cs) q ∙ counts_down past_block_from (λ n. refl) (λ n c cs. refl) 3 cs

pub block_char : (c : ℕ) (cs : List ℕ) → closes (c ∷ cs) ≡ false → begins_quotes (c ∷ cs) ≡ false → past_block (c ∷ cs) ≡ past_block cs
unfolding past_block
block_char c cs h q =
    ap (λ b. cond b (Some (drop 2 cs)) (past_block_from (cond (begins_quotes (c ∷ cs)) 3 0) cs)) h
    ∙ ap (λ b. past_block_from (cond b 3 0) cs) q

-- ---- steps over runs of quotes

no_close : (c : ℕ) (cs : List ℕ) → eqb c 34 ≡ false → closes (c ∷ cs) ≡ false
no_close c cs h = ap (λ b. b && eqb (get_or cs 0 0) 34 && eqb (get_or cs 1 0) 34) h

no_escape : (c : ℕ) (cs : List ℕ) → eqb c 92 ≡ false → begins_quotes (c ∷ cs) ≡ false
no_escape c cs h = ap (λ b. b && eqb (get_or cs 0 0) 34 && eqb (get_or cs 1 0) 34 && eqb (get_or cs 2 0) 34) h

-- any character but a quote and a backslash
pub block_other : (c : ℕ) (cs : List ℕ) → eqb c 34 ≡ false → eqb c 92 ≡ false → past_block (c ∷ cs) ≡ past_block cs
block_other c cs p q = block_char c cs (no_close c cs p) (no_escape c cs q)

-- what begins with no quote reads none
no_quote : (text : List ℕ) → NoQuote text → eqb (get_or text 0 0) 34 ≡ false
no_quote [] h = refl
no_quote (c ∷ cs) h = grind (arith, nat_tests)

one_quote : (text : List ℕ) → NoQuote text → past_block (34 ∷ text) ≡ past_block text
one_quote text h =
    let n : closes (34 ∷ text) ≡ false = ap (λ b. b && eqb (get_or text 1 0) 34) (no_quote text h) in
    block_char 34 text n refl

two_quotes : (text : List ℕ) → NoQuote text → past_block (34 ∷ 34 ∷ text) ≡ past_block text
two_quotes text h =
    let n : closes (34 ∷ 34 ∷ text) ≡ false = no_quote text h in
    block_char 34 (34 ∷ text) n refl ∙ one_quote text h

-- fewer than three quotes are text
pub block_few : (n : ℕ) (text rest : List ℕ) → IsRunOfQuotes n text rest → n < 3 → past_block text ≡ past_block rest
block_few zero text rest q l = ap past_block q.passed
block_few (suc zero) text rest q l = ap past_block q.passed ∙ one_quote rest (q.stops l)
block_few (suc (suc zero)) text rest q l = ap past_block q.passed ∙ two_quotes rest (q.stops l)
block_few (suc (suc (suc n))) text rest q l = absurd (omega arith)

-- three close the block string
pub block_three : (n : ℕ) (text rest : List ℕ) → IsRunOfQuotes n text rest → n ≡ 3 → past_block text ≡ Some rest
block_three n text rest q e =
    let three : text ≡ 34 ∷ 34 ∷ 34 ∷ rest = q.passed ∙ ap (λ k. quotes k ++ rest) e in
    ap past_block three ∙ block_closes 34 (34 ∷ 34 ∷ rest) refl

-- after a backslash they are text in any case
pub block_escape : (n : ℕ) (text rest : List ℕ) → IsRunOfQuotes n text rest → past_block (92 ∷ text) ≡ past_block rest
block_escape zero text rest q =
    let same = q.passed in
    let none : begins_quotes (92 ∷ text) ≡ false =
    ap (λ x. begins_quotes (92 ∷ x)) same ∙ ap (λ b. b && eqb (get_or rest 1 0) 34 && eqb (get_or rest 2 0) 34) (no_quote rest (q.stops (omega arith))) in
    block_char 92 text (no_close 92 text refl) none ∙ ap past_block same
block_escape (suc zero) text rest q =
    let same = q.passed in
    let none : begins_quotes (92 ∷ text) ≡ false =
    ap (λ x. begins_quotes (92 ∷ x)) same ∙ ap (λ b. b && eqb (get_or rest 1 0) 34) (no_quote rest (q.stops (omega arith))) in
    block_char 92 text (no_close 92 text refl) none ∙ block_few 1 text rest q (omega arith)
block_escape (suc (suc zero)) text rest q =
    let none : begins_quotes (92 ∷ text) ≡ false = ap (λ x. begins_quotes (92 ∷ x)) q.passed ∙ no_quote rest (q.stops (omega arith)) in
    block_char 92 text (no_close 92 text refl) none ∙ block_few 2 text rest q (omega arith)
block_escape (suc (suc (suc zero))) text rest q =
    let all : begins_quotes (92 ∷ text) ≡ true = ap (λ x. begins_quotes (92 ∷ x)) q.passed in
    block_quotes 92 text (no_close 92 text refl) all ∙ ap (λ x. past_block (drop 3 x)) q.passed
block_escape (suc (suc (suc (suc n)))) text rest q = absurd (omega (arith, q.most))

-- ---- what is passed is a raw text

abbrev pub three_quotes : List ℕ
three_quotes = 34 ∷ 34 ∷ 34 ∷ []

pub record Enclosed (text rest : List ℕ) : Type 0 where
  pub units : List (List ℕ)
  pub whole : text ≡ (concat units ++ three_quotes) ++ rest
  pub are : AreBlockUnits units three_quotes

-- the tests look no further than four characters
closes_front : (x rest : List ℕ) → 3 ≤ length x → closes (x ++ rest) ≡ closes x
closes_front [] rest h = absurd (omega arith)
closes_front (a ∷ []) rest h = absurd (omega arith)
closes_front (a ∷ b ∷ []) rest h = absurd (omega arith)
closes_front (a ∷ b ∷ c ∷ x) rest h = refl

quotes_front : (x rest : List ℕ) → 4 ≤ length x → begins_quotes (x ++ rest) ≡ begins_quotes x
quotes_front [] rest h = absurd (omega arith)
quotes_front (a ∷ []) rest h = absurd (omega arith)
quotes_front (a ∷ b ∷ []) rest h = absurd (omega arith)
quotes_front (a ∷ b ∷ c ∷ []) rest h = absurd (omega arith)
quotes_front (a ∷ b ∷ c ∷ d ∷ x) rest h = refl

closed_here : (c : ℕ) (cs rest : List ℕ) → closes (c ∷ cs) ≡ true → drop 2 cs ≡ rest → (c ∷ cs) ≡ three_quotes ++ rest
closed_here c [] rest h e = absurd (grind (arith, nat_tests))
closed_here c (a ∷ []) rest h e = absurd (grind (arith, nat_tests))
closed_here c (a ∷ b ∷ cs) rest h e =
    let x : c ≡ 34 = grind (arith, nat_tests) in
    let y : a ≡ 34 = grind (arith, nat_tests) in
    let z : b ≡ 34 = grind (arith, nat_tests) in
    ap (λ d. d ∷ a ∷ b ∷ cs) x ∙ ap (λ d. 34 ∷ d ∷ b ∷ cs) y ∙ ap (λ d. 34 ∷ 34 ∷ d ∷ cs) z ∙ ap (λ r. 34 ∷ 34 ∷ 34 ∷ r) e

escaped_here : (c : ℕ) (cs : List ℕ) → begins_quotes (c ∷ cs) ≡ true → (c ∷ cs) ≡ 92 ∷ 34 ∷ 34 ∷ 34 ∷ drop 3 cs
escaped_here c [] h = absurd (grind (arith, nat_tests))
escaped_here c (a ∷ []) h = absurd (grind (arith, nat_tests))
escaped_here c (a ∷ b ∷ []) h = absurd (grind (arith, nat_tests))
escaped_here c (a ∷ b ∷ d ∷ cs) h =
    let x : c ≡ 92 = grind (arith, nat_tests) in
    let y : a ≡ 34 = grind (arith, nat_tests) in
    let z : b ≡ 34 = grind (arith, nat_tests) in
    let w : d ≡ 34 = grind (arith, nat_tests) in
    ap (λ k. k ∷ a ∷ b ∷ d ∷ cs) x ∙ ap (λ k. 92 ∷ k ∷ b ∷ d ∷ cs) y ∙ ap (λ k. 92 ∷ 34 ∷ k ∷ d ∷ cs) z ∙ ap (λ k. 92 ∷ 34 ∷ 34 ∷ k ∷ cs) w

enclosed_unit : (unit text rest : List ℕ) (k : Enclosed text rest) → IsBlockUnit unit (concat k.units ++ three_quotes) → Enclosed (unit ++ text) rest
enclosed_unit unit text rest k u = record {
  units = unit ∷ k.units;
  whole = ap (λ x. unit ++ x) k.whole ∙ sym (append_assoc unit (concat k.units ++ three_quotes) rest) ∙ ap (λ x. x ++ rest) (sym (append_assoc unit (concat k.units) three_quotes));
  are = (u, k.are);
}

-- a character's tests, from the text to the raw text and its closing quotes
char_unit : (c : ℕ) (cs rest : List ℕ) (k : Enclosed cs rest) → closes (c ∷ cs) ≡ false → begins_quotes (c ∷ cs) ≡ false → IsBlockUnit (c ∷ []) (concat k.units ++ three_quotes)
char_unit c cs rest k h q =
    let inside = c ∷ (concat k.units ++ three_quotes) in
    let whole : (c ∷ cs) ≡ inside ++ rest = ap (λ x. c ∷ x) k.whole in
    let long : 4 ≤ length inside = omega (arith, length-append (concat k.units) three_quotes) in
    inr (c, refl, sym (ap closes whole ∙ closes_front inside rest (omega arith)) ∙ h, sym (ap begins_quotes whole ∙ quotes_front inside rest long) ∙ q)

enclosed_from : (n : ℕ) (text rest : List ℕ) → length text ≤ n → past_block text ≡ Some rest → Enclosed text rest
enclosed_from n [] rest h e = let none = block_end [] refl in absurd (cc)
enclosed_from zero (c ∷ cs) rest h e = absurd (omega arith)
enclosed_from (suc n) (c ∷ cs) rest h e = by (closes (c ∷ cs)) refl (begins_quotes (c ∷ cs)) refl (λ t l f. enclosed_from n t rest l f)
  where
    by : (p : Bool) → closes (c ∷ cs) ≡ p → (q : Bool) → begins_quotes (c ∷ cs) ≡ q → ((t : List ℕ) → length t ≤ n → past_block t ≡ Some rest → Enclosed t rest) → Enclosed (c ∷ cs) rest
    by true p q g ih = record { units = []; whole = closed_here c cs rest p (some_same (drop 2 cs) rest (sym (block_closes c cs p) ∙ e)); are = tt }
    by false p true g ih =
        let is = escaped_here c cs g in
        let short : length (drop 3 cs) ≤ n = omega (arith, ap length is) in
        let k = ih (drop 3 cs) short (sym (block_quotes c cs p g) ∙ e) in
        subst (λ (t : List ℕ). Enclosed t rest) (sym is) (enclosed_unit (92 ∷ 34 ∷ 34 ∷ 34 ∷ []) (drop 3 cs) rest k (inl refl))
    by false p false g ih =
        let k = ih cs (omega arith) (sym (block_char c cs p g) ∙ e) in
        enclosed_unit (c ∷ []) cs rest k (char_unit c cs rest k p g)

pub block_is : (text rest : List ℕ) → past_block text ≡ Some rest → Enclosed text rest
block_is text rest e = enclosed_from (length text) text rest (omega arith) e

-- ---- and each raw text is passed

unit_step : (unit text rest : List ℕ) → 3 ≤ length text → IsBlockUnit unit text → past_block (unit ++ (text ++ rest)) ≡ past_block (text ++ rest)
unit_step unit text rest l (inl e) = ap (λ u. past_block (u ++ (text ++ rest))) e ∙ block_quotes 92 (34 ∷ 34 ∷ 34 ∷ (text ++ rest)) refl refl
unit_step unit text rest l (inr u) =
    let c = u.0 in
    ap (λ x. past_block (x ++ (text ++ rest))) u.1
    ∙ block_char c (text ++ rest) (closes_front (c ∷ text) rest (omega arith) ∙ u.2) (quotes_front (c ∷ text) rest (omega arith) ∙ u.3)

units_step : (units : List (List ℕ)) (rest : List ℕ) → AreBlockUnits units three_quotes → past_block ((concat units ++ three_quotes) ++ rest) ≡ Some rest
units_step [] rest h = block_closes 34 (34 ∷ 34 ∷ rest) refl
units_step (u ∷ us) rest h =
    let inside = concat us ++ three_quotes in
    let whole : (concat (u ∷ us) ++ three_quotes) ++ rest ≡ u ++ (inside ++ rest) =
    ap (λ x. x ++ rest) (append_assoc u (concat us) three_quotes) ∙ append_assoc u inside rest in
    ap past_block whole ∙ unit_step u inside rest (omega (arith, length-append (concat us) three_quotes)) h.0 ∙ units_step us rest h.1

pub block_only : (units : List (List ℕ)) (rest : List ℕ) → AreBlockUnits units three_quotes → past_block ((concat units ++ three_quotes) ++ rest) ≡ Some rest
block_only units rest h = units_step units rest h
