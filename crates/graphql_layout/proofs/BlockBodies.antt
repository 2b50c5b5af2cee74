-- The body of a block string: nothing in it ends the string, and without its backslashes it is the characters of the value, with
-- a line break for each line feed.
use Rattle.std.proofs.Common.{◌≡◌, ℕ, zero, suc, Bool, true, false, cond, eqb, ◌&&◌, ◌||◌, List, [], ◌∷◌, ◌++◌, drop, Some, refl, sym, ap, ◌∙◌, subst, append_assoc, arith}
use Rattle.std.proofs.lemmas.Bool.Decides.{nat_tests}
use Rattle.graphql_tokens.specs.tokens.Blocks.{closes}
use Rattle.graphql_tokens.specs.tokens.BlockText.{begins_quotes, unquoted}
use Rattle.graphql_tokens.specs.inner.Quoted.{past_block_from, NoQuote}
use Rattle.graphql_tokens.proofs.EscapeUnits.{both}
use Rattle.graphql_tokens.proofs.BlockValue.{quotes_at, begins_is, unquoted_yes, unquoted_no, not_slash}
use Rattle.graphql_layout.specs.declared.line_ends.LineBreak.{LineBreak}
use Rattle.graphql_layout.specs.declared.line_ends.LineEnd.{LineEnd}
use Rattle.graphql_layout.specs.declared.line_ends.LineEnd.TheVariants.{Feed, ReturnAndFeed}
use Rattle.graphql_layout.specs.texts.Blocks.{blanks, line_break, placed, body}
use Rattle.graphql_layout.specs.texts.LineEnds.{line_end}
use Rattle.graphql_layout.specs.texts.Shortened.{is_mark, is_open}

-- the characters, with the line break for each line feed
abbrev pub lined : LineBreak → List ℕ → List ℕ
lined i [] = []
lined i (c ∷ cs) = placed i c ++ lined i cs

-- ---- runs of quotes

three_all : (a b c : Bool) → ((a && b) && c) ≡ (a && (b && (c && true)))
three_all false b c = refl
three_all true false c = refl
three_all true true false = refl
three_all true true true = refl

pub closes_is : (xs : List ℕ) → closes xs ≡ quotes_at 3 xs
closes_is [] = refl
closes_is (x ∷ []) = three_all (eqb x 34) false false
closes_is (x ∷ y ∷ []) = three_all (eqb x 34) (eqb y 34) false
closes_is (x ∷ y ∷ z ∷ xs) = three_all (eqb x 34) (eqb y 34) (eqb z 34)

pub and_false : (a b : Bool) → b ≡ false → (a && b) ≡ false
and_false true b e = e
and_false false b e = refl

no_quotes : (k : ℕ) (tail : List ℕ) → NoQuote tail → quotes_at (suc k) tail ≡ false
no_quotes k [] h = refl
no_quotes k (c ∷ cs) h = let n : eqb c 34 ≡ false = grind (arith, nat_tests) in ap (λ b. b && quotes_at k cs) n

-- what is said where nothing is left, after one more character
open_next : (before : Bool) (c : ℕ) (cs : List ℕ) → closes (c ∷ cs) ≡ false → is_open 0 before (c ∷ cs) ≡ is_open 0 (is_mark c) cs
open_next before c cs h = ap (λ b. cond b (is_open 2 false cs) (is_open 0 (is_mark c) cs)) h

quote_marks : (c : ℕ) → eqb c 34 ≡ true → is_mark c ≡ true
quote_marks c h = ap (λ b. b || eqb c 92) h

slash_marks : (c : ℕ) → eqb c 92 ≡ true → is_mark c ≡ true
slash_marks c h = let q : eqb c 34 ≡ false = grind (arith, nat_tests) in ap (λ b. b || eqb c 92) q ∙ h

-- the quotes of the value aren't read with those of the tail
abbrev pub Parts : ℕ → Bool → List ℕ → List ℕ → Type 0
Parts k before cs tail = is_open k before cs ≡ true → NoQuote tail

pub break_clear : (i : LineBreak) (t : List ℕ) → NoQuote (line_break i ++ t)
break_clear i t = by i.line_end
  where
    by : (e : LineEnd) → NoQuote ((line_end e ++ blanks i.indent) ++ t)
    by Feed = λ e. omega arith
    by ReturnAndFeed = λ e. omega arith

-- quotes that are left before something else stood in the value
quotes_before : (i : LineBreak) (k : ℕ) (cs tail : List ℕ) → Parts 0 true cs tail → quotes_at k (body i 0 cs ++ tail) ≡ true → quotes_at k cs ≡ true
quotes_before i zero cs tail h q = refl
quotes_before i (suc k) [] tail h q = let n = no_quotes k tail (h refl) in absurd (cc)
quotes_before i (suc k) (c ∷ cs) tail h q = by (closes (c ∷ cs)) (eqb c 10) refl q (quotes_before i k cs tail)
  where
    by : (b d : Bool) → closes (c ∷ cs) ≡ b → quotes_at (suc k) (cond b (92 ∷ c ∷ body i 2 cs) (cond d (line_break i) (c ∷ []) ++ body i 0 cs) ++ tail) ≡ true
        → (Parts 0 true cs tail → quotes_at k (body i 0 cs ++ tail) ≡ true → quotes_at k cs ≡ true) → (eqb c 34 && quotes_at k cs) ≡ true
    by true d f q r = absurd (cc)
    by false true f q r = let n = no_quotes k ((line_break i ++ body i 0 cs) ++ tail) (subst NoQuote (sym (append_assoc (line_break i) (body i 0 cs) tail)) (break_clear i (body i 0 cs ++ tail))) in absurd (cc)
    by false false f q r =
        let e = both (eqb c 34) (quotes_at k (body i 0 cs ++ tail)) q in
        ap (λ b. b && quotes_at k cs) e.0 ∙ r (λ o. h (open_next true c cs f ∙ ap (λ b. is_open 0 b cs) (quote_marks c e.0) ∙ o)) e.1

-- three of them have a backslash before them
slash_first : (i : LineBreak) (cs tail : List ℕ) → closes cs ≡ true → closes (body i 0 cs ++ tail) ≡ false
slash_first i [] tail h = absurd (cc)
slash_first i (c ∷ cs) tail h = ap (λ b. closes (cond b (92 ∷ c ∷ body i 2 cs) (placed i c ++ body i 0 cs) ++ tail)) h

pub closes_body : (i : LineBreak) (cs tail : List ℕ) → Parts 0 true cs tail → closes (body i 0 cs ++ tail) ≡ false
closes_body i cs tail h = by (quotes_at 3 (body i 0 cs ++ tail)) refl
  where
    by : (b : Bool) → quotes_at 3 (body i 0 cs ++ tail) ≡ b → closes (body i 0 cs ++ tail) ≡ false
    by false e = closes_is (body i 0 cs ++ tail) ∙ e
    by true e = slash_first i cs tail (closes_is cs ∙ quotes_before i 3 cs tail h e)

quotes_kept : (i : LineBreak) (k : ℕ) (cs tail : List ℕ) → quotes_at k cs ≡ true → quotes_at k (body i k cs ++ tail) ≡ true
quotes_kept i zero cs tail q = refl
quotes_kept i (suc k) [] tail q = absurd (cc)
quotes_kept i (suc k) (c ∷ cs) tail q = let e = both (eqb c 34) (quotes_at k cs) q in ap (λ b. b && quotes_at k (body i k cs ++ tail)) e.0 ∙ quotes_kept i k cs tail e.1

-- three quotes in the value
record Three (i : LineBreak) (c : ℕ) (cs tail : List ℕ) : Type 0 where
  quote : eqb c 34 ≡ true
  more : quotes_at 2 cs ≡ true
  escaped : begins_quotes (92 ∷ c ∷ (body i 2 cs ++ tail)) ≡ true

three : (i : LineBreak) (c : ℕ) (cs tail : List ℕ) → closes (c ∷ cs) ≡ true → Three i c cs tail
three i c cs tail h =
    let e = both (eqb c 34) (quotes_at 2 cs) (sym (closes_is (c ∷ cs)) ∙ h) in
    record {
      quote = e.0;
      more = e.1;
      escaped = begins_is 92 (c ∷ (body i 2 cs ++ tail)) ∙ ap (λ b. b && quotes_at 2 (body i 2 cs ++ tail)) e.0 ∙ quotes_kept i 2 cs tail e.1;
    }

-- a backslash before less than three quotes
no_escape : (i : LineBreak) (c : ℕ) (cs tail : List ℕ) → Parts 0 (is_mark c) cs tail → begins_quotes (c ∷ (body i 0 cs ++ tail)) ≡ false
no_escape i c cs tail h = begins_is c (body i 0 cs ++ tail) ∙ by (eqb c 92) refl
  where
    by : (b : Bool) → eqb c 92 ≡ b → (eqb c 92 && quotes_at 3 (body i 0 cs ++ tail)) ≡ false
    by true e =
        and_false (eqb c 92) (quotes_at 3 (body i 0 cs ++ tail))
        (sym (closes_is (body i 0 cs ++ tail)) ∙ closes_body i cs tail (λ o. h (ap (λ b. is_open 0 b cs) (slash_marks c e) ∙ o)))
    by false e = ap (λ b. b && quotes_at 3 (body i 0 cs ++ tail)) e

-- ---- where the string ends

blanks_pass : (n : ℕ) (t : List ℕ) → past_block_from 0 (blanks n ++ t) ≡ past_block_from 0 t
blanks_pass zero t = refl
blanks_pass (suc n) t = blanks_pass n t

pub break_passes : (i : LineBreak) (t : List ℕ) → past_block_from 0 (line_break i ++ t) ≡ past_block_from 0 t
break_passes i t = by i.line_end
  where
    by : (e : LineEnd) → past_block_from 0 ((line_end e ++ blanks i.indent) ++ t) ≡ past_block_from 0 t
    by Feed = blanks_pass i.indent t
    by ReturnAndFeed = blanks_pass i.indent t

pub char_passes : (c : ℕ) (cs : List ℕ) → closes (c ∷ cs) ≡ false → begins_quotes (c ∷ cs) ≡ false → past_block_from 0 (c ∷ cs) ≡ past_block_from 0 cs
char_passes c cs h q =
    ap (λ b. cond b (Some (drop 2 cs)) (past_block_from (cond (begins_quotes (c ∷ cs)) 3 0) cs)) h
    ∙ ap (λ b. past_block_from (cond b 3 0) cs) q

-- it ends where what stands after its body ends it
pub body_passes : (i : LineBreak) (k : ℕ) (before : Bool) (cs tail : List ℕ) → Parts k before cs tail → quotes_at k cs ≡ true → past_block_from k (body i k cs ++ tail) ≡ past_block_from 0 tail
body_passes i zero before [] tail h q = refl
body_passes i (suc k) before [] tail h q = absurd (cc)
body_passes i (suc k) before (c ∷ cs) tail h q = body_passes i k false cs tail h (both (eqb c 34) (quotes_at k cs) q).1
body_passes i zero before (c ∷ cs) tail h q = by (closes (c ∷ cs)) (eqb c 10) refl h (closes_body i (c ∷ cs) tail h) (λ p. body_passes i 0 (is_mark c) cs tail p refl) (λ p more. body_passes i 2 false cs tail p more)
  where
    by : (b d : Bool) → closes (c ∷ cs) ≡ b → (cond b (is_open 2 false cs) (is_open 0 (is_mark c) cs) ≡ true → NoQuote tail)
        → closes (cond b (92 ∷ c ∷ body i 2 cs) (cond d (line_break i) (c ∷ []) ++ body i 0 cs) ++ tail) ≡ false
        → (Parts 0 (is_mark c) cs tail → past_block_from 0 (body i 0 cs ++ tail) ≡ past_block_from 0 tail)
        → (Parts 2 false cs tail → quotes_at 2 cs ≡ true → past_block_from 2 (body i 2 cs ++ tail) ≡ past_block_from 0 tail)
        → past_block_from 0 (cond b (92 ∷ c ∷ body i 2 cs) (cond d (line_break i) (c ∷ []) ++ body i 0 cs) ++ tail) ≡ past_block_from 0 tail
    by true d e p n r s = let t = three i c cs tail e in ap (λ b. past_block_from (cond b 3 0) (c ∷ (body i 2 cs ++ tail))) t.escaped ∙ s p t.more
    by false true e p n r s = ap (past_block_from 0) (append_assoc (line_break i) (body i 0 cs) tail) ∙ break_passes i (body i 0 cs ++ tail) ∙ r p
    by false false e p n r s = char_passes c (body i 0 cs ++ tail) n (no_escape i c cs tail p) ∙ r p

-- ---- what it means

unquoted_blanks : (n : ℕ) (t : List ℕ) → unquoted (blanks n ++ t) ≡ blanks n ++ unquoted t
unquoted_blanks zero t = refl
unquoted_blanks (suc n) t = ap (λ (x : List ℕ). 32 ∷ x) (unquoted_blanks n t)

pub unquoted_break : (i : LineBreak) (t : List ℕ) → unquoted (line_break i ++ t) ≡ line_break i ++ unquoted t
unquoted_break i t = by i.line_end
  where
    by : (e : LineEnd) → unquoted ((line_end e ++ blanks i.indent) ++ t) ≡ (line_end e ++ blanks i.indent) ++ unquoted t
    by Feed = ap (λ (x : List ℕ). 10 ∷ x) (unquoted_blanks i.indent t)
    by ReturnAndFeed = ap (λ (x : List ℕ). 13 ∷ 10 ∷ x) (unquoted_blanks i.indent t)

-- a quote of the value
quote_stays : (i : LineBreak) (c : ℕ) (t : List ℕ) → eqb c 34 ≡ true → unquoted (c ∷ t) ≡ placed i c ++ unquoted t
quote_stays i c t h =
    let n : eqb c 92 ≡ false = grind (arith, nat_tests) in
    let m : eqb c 10 ≡ false = grind (arith, nat_tests) in
    unquoted_no c t (not_slash c t n) ∙ ap (λ b. cond b (line_break i) (c ∷ []) ++ unquoted t) (sym m)

then_rest : (here rest tail all : List ℕ) → all ≡ rest ++ tail → here ++ all ≡ (here ++ rest) ++ tail
then_rest here rest tail all e = ap (λ (x : List ℕ). here ++ x) e ∙ sym (append_assoc here rest tail)

pub body_unquoted : (i : LineBreak) (k : ℕ) (cs tail : List ℕ) → NoQuote tail → quotes_at k cs ≡ true → unquoted (body i k cs ++ tail) ≡ lined i cs ++ unquoted tail
body_unquoted i zero [] tail h q = refl
body_unquoted i (suc k) [] tail h q = absurd (cc)
body_unquoted i (suc k) (c ∷ cs) tail h q =
    let e = both (eqb c 34) (quotes_at k cs) q in
    quote_stays i c (body i k cs ++ tail) e.0 ∙ then_rest (placed i c) (lined i cs) (unquoted tail) (unquoted (body i k cs ++ tail)) (body_unquoted i k cs tail h e.1)
body_unquoted i zero (c ∷ cs) tail h q = by (closes (c ∷ cs)) (eqb c 10) refl refl (body_unquoted i 0 cs tail h refl) (λ more. body_unquoted i 2 cs tail h more)
  where
    by : (b d : Bool) → closes (c ∷ cs) ≡ b → eqb c 10 ≡ d
        → unquoted (body i 0 cs ++ tail) ≡ lined i cs ++ unquoted tail → (quotes_at 2 cs ≡ true → unquoted (body i 2 cs ++ tail) ≡ lined i cs ++ unquoted tail)
        → unquoted (cond b (92 ∷ c ∷ body i 2 cs) (cond d (line_break i) (c ∷ []) ++ body i 0 cs) ++ tail) ≡ (cond d (line_break i) (c ∷ []) ++ lined i cs) ++ unquoted tail
    by true d e f r s =
        let t = three i c cs tail e in
        unquoted_yes 92 (c ∷ (body i 2 cs ++ tail)) t.escaped ∙ quote_stays i c (body i 2 cs ++ tail) t.quote
        ∙ then_rest (placed i c) (lined i cs) (unquoted tail) (unquoted (body i 2 cs ++ tail)) (s t.more)
        ∙ ap (λ b. (cond b (line_break i) (c ∷ []) ++ lined i cs) ++ unquoted tail) f
    by false true e f r s =
        ap unquoted (append_assoc (line_break i) (body i 0 cs) tail) ∙ unquoted_break i (body i 0 cs ++ tail)
        ∙ then_rest (line_break i) (lined i cs) (unquoted tail) (unquoted (body i 0 cs ++ tail)) r
    by false false e f r s = unquoted_no c (body i 0 cs ++ tail) (no_escape i c cs tail (λ o. h)) ∙ ap (λ (x : List ℕ). c ∷ x) r
