-- What `skip` leaves out is ignored text, and all of it.
use Rattle.std.proofs.Common.{◌≡◌, ℕ, ◌-◌, Bool, true, false, cond, eqb, List, [], ◌∷◌, ◌++◌, length, take, refl, sym, ap, ◌∙◌, append_assoc, arith, inl, inr, length-append}
use Rattle.std.proofs.Math.Seq.{take-append_seam}
use Rattle.std.proofs.lemmas.Bool.Decides.{nat_tests}
use Rattle.std.specs.List.{AllByRecursion, concat}
use Rattle.graphql_tokens.specs.tokens.Place.{is_line_end}
use Rattle.graphql_tokens.specs.tokens.Classes.{is_ignored}
use Rattle.graphql_tokens.specs.tokens.Ignored.{EndsLine, IsComment, IsPiece, AreIgnored}
use Rattle.graphql_tokens.specs.tokens.Cuts.{GoesOn}
use Rattle.graphql_tokens.specs.inner.Reading.{skip_from, skip, past_line, before}

pub line_end_ignored : (c : ℕ) → is_line_end c ≡ true → is_ignored c ≡ true
line_end_ignored c h = grind (arith, nat_tests)

pub record Skipped (text after : List ℕ) : Type 0 where
  pub pieces : List (List ℕ)
  pub whole : text ≡ concat pieces ++ after
  pub ignored : AreIgnored pieces after

record Commented (text after : List ℕ) : Type 0 where
  body : List ℕ
  pieces : List (List ℕ)
  whole : text ≡ body ++ (concat pieces ++ after)
  in_line : AllByRecursion (λ d. is_line_end d ≡ false) body
  ends : EndsLine (concat pieces ++ after)
  ignored : AreIgnored pieces after

record Both (text : List ℕ) : Type 0 where
  skipped : Skipped text (skip_from false text)
  commented : Commented text (skip_from true text)

skipped_cons : (c : ℕ) (cs : List ℕ) → Both cs → (i h : Bool) → is_ignored c ≡ i → eqb c 35 ≡ h
    → Skipped (c ∷ cs) (cond i (skip_from false cs) (cond h (skip_from true cs) (c ∷ cs)))
skipped_cons c cs b true h e f =
    record { pieces = (c ∷ []) ∷ b.skipped.pieces; whole = ap (λ x. c ∷ x) b.skipped.whole; ignored = (inl (c, refl, e), b.skipped.ignored) }
skipped_cons c cs b false true e f =
    let k = b.commented in
    let is : c ≡ 35 = grind (arith, nat_tests) in
    record {
      pieces = (c ∷ k.body) ∷ k.pieces;
      whole = ap (λ x. c ∷ x) (k.whole ∙ sym (append_assoc k.body (concat k.pieces) (skip_from true cs)));
      ignored = (inr ((is, k.in_line), k.ends), k.ignored);
    }
skipped_cons c cs b false false e f = record { pieces = []; whole = refl; ignored = tt }

commented_cons : (c : ℕ) (cs : List ℕ) → Both cs → (l : Bool) → is_line_end c ≡ l → Commented (c ∷ cs) (cond l (skip_from false cs) (skip_from true cs))
commented_cons c cs b true e =
    record {
      body = [];
      pieces = (c ∷ []) ∷ b.skipped.pieces;
      whole = ap (λ x. c ∷ x) b.skipped.whole;
      in_line = tt;
      ends = e;
      ignored = (inl (c, refl, line_end_ignored c e), b.skipped.ignored);
    }
commented_cons c cs b false e =
    let k = b.commented in
    record { body = c ∷ k.body; pieces = k.pieces; whole = ap (λ x. c ∷ x) k.whole; in_line = (e, k.in_line); ends = k.ends; ignored = k.ignored }

both : (text : List ℕ) → Both text
both [] = record { skipped = record { pieces = []; whole = refl; ignored = tt }; commented = record { body = []; pieces = []; whole = refl; in_line = tt; ends = tt; ignored = tt } }
both (c ∷ cs) = record {
  skipped = skipped_cons c cs (both cs) (is_ignored c) (eqb c 35) refl refl;
  commented = commented_cons c cs (both cs) (is_line_end c) refl;
}

pub skip_skips : (text : List ℕ) → Skipped text (skip text)
unfolding skip
skip_skips text = (both text).skipped

-- ---- and no ignored text is left

-- nothing, or what is not ignored
abbrev pub IsRest : List ℕ → Type 0
IsRest [] = Unit {0}
IsRest (c ∷ cs) = GoesOn (c ∷ cs)

rest_cons : (c : ℕ) (cs : List ℕ) → IsRest (skip_from false cs) → IsRest (skip_from true cs) → (i h : Bool) → is_ignored c ≡ i → eqb c 35 ≡ h
    → IsRest (cond i (skip_from false cs) (cond h (skip_from true cs) (c ∷ cs)))
rest_cons c cs f t true h e g = f
rest_cons c cs f t false true e g = t
rest_cons c cs f t false false e g = (e, grind (arith, nat_tests))

rest_in_comment : (l : Bool) (f t : List ℕ) → IsRest f → IsRest t → IsRest (cond l f t)
rest_in_comment true f t p q = p
rest_in_comment false f t p q = q

rests : (text : List ℕ) → IsRest (skip_from false text) × IsRest (skip_from true text)
rests [] = (tt, tt)
rests (c ∷ cs) = let r = rests cs in
    (rest_cons c cs r.0 r.1 (is_ignored c) (eqb c 35) refl refl, rest_in_comment (is_line_end c) (skip_from false cs) (skip_from true cs) r.0 r.1)

pub skip_rests : (text : List ℕ) → IsRest (skip text)
unfolding skip
skip_rests text = (rests text).0

-- ---- ignored text is skipped, before what is not ignored

pub skip_rest : (after : List ℕ) → IsRest after → skip after ≡ after
unfolding skip
skip_rest [] r = refl
skip_rest (c ∷ cs) r = let n : eqb c 35 ≡ false = (let other = r.1 in grind (arith, nat_tests)) in rw (r.0, n) refl

past_body : (body rest : List ℕ) → AllByRecursion (λ d. is_line_end d ≡ false) body → skip_from true (body ++ rest) ≡ skip_from true rest
past_body [] rest h = refl
past_body (c ∷ cs) rest h = ap (λ b. cond b (skip_from false (cs ++ rest)) (skip_from true (cs ++ rest))) h.0 ∙ past_body cs rest h.1

comment_ends : (rest : List ℕ) → EndsLine rest → skip_from true rest ≡ skip_from false rest
comment_ends [] h = refl
comment_ends (c ∷ cs) h =
    ap (λ b. cond b (skip_from false cs) (skip_from true cs)) h
    ∙ sym (ap (λ b. cond b (skip_from false cs) (cond (eqb c 35) (skip_from true cs) (c ∷ cs))) (line_end_ignored c h))

past_comment : (piece rest : List ℕ) → IsComment piece → EndsLine rest → skip_from false (piece ++ rest) ≡ skip_from false rest
past_comment [] rest h e = absurd h
past_comment (c ∷ body) rest h e =
    ap (λ d. skip_from false (d ∷ (body ++ rest))) h.0 ∙ past_body body rest h.1 ∙ comment_ends rest e

past_char : (c : ℕ) (piece rest : List ℕ) → piece ≡ c ∷ [] → is_ignored c ≡ true → skip_from false (piece ++ rest) ≡ skip_from false rest
past_char c piece rest is h =
    ap (λ p. skip_from false (p ++ rest)) is
    ∙ ap (λ b. cond b (skip_from false rest) (cond (eqb c 35) (skip_from true rest) (c ∷ rest))) h

past_piece : (piece rest : List ℕ) → IsPiece piece rest → skip_from false (piece ++ rest) ≡ skip_from false rest
past_piece piece rest (inl p) = past_char p.0 piece rest p.1 p.2
past_piece piece rest (inr p) = past_comment piece rest p.0 p.1

pub skip_pieces : (pieces : List (List ℕ)) (after : List ℕ) → AreIgnored pieces after → skip (concat pieces ++ after) ≡ skip after
unfolding skip
skip_pieces [] after h = refl
skip_pieces (p ∷ ps) after h =
    ap (λ x. skip_from false x) (append_assoc p (concat ps) after) ∙ past_piece p (concat ps ++ after) h.0 ∙ skip_pieces ps after h.1

-- a text as far as its rest
pub before_is : (text front rest : List ℕ) → text ≡ front ++ rest → before text rest ≡ front
unfolding before
before_is text front rest whole =
    let n : length text - length rest ≡ length front = omega (arith, ap length whole, length-append front rest) in
    ap (λ k. take k text) n ∙ ap (λ t. take (length front) t) whole ∙ take-append_seam front rest

-- a comment, and the character that ends its line
skip_line : (cs : List ℕ) → skip_from true cs ≡ skip_from false (past_line cs)
skip_line [] = refl
skip_line (c ∷ cs) = by (skip_line cs) (is_line_end c)
  where
    by : skip_from true cs ≡ skip_from false (past_line cs) → (b : Bool) → cond b (skip_from false cs) (skip_from true cs) ≡ skip_from false (cond b cs (past_line cs))
    by r true = refl
    by r false = r

past_line_stays : (c : ℕ) (cs : List ℕ) → c ≡ 35 → past_line (c ∷ cs) ≡ past_line cs
past_line_stays c cs is = let n : is_line_end c ≡ false = grind (arith, nat_tests) in rw n refl

pub skip_comment : (c : ℕ) (cs : List ℕ) → c ≡ 35 → skip (c ∷ cs) ≡ skip (past_line (c ∷ cs))
unfolding skip
skip_comment c cs is =
    ap (λ d. skip_from false (d ∷ cs)) is ∙ skip_line cs ∙ ap (skip_from false) (sym (past_line_stays c cs is))

pub skip_goes : (c : ℕ) (cs : List ℕ) → is_ignored c ≡ true → skip (c ∷ cs) ≡ skip cs
unfolding skip
skip_goes c cs h = ap (λ b. cond b (skip_from false cs) (cond (eqb c 35) (skip_from true cs) (c ∷ cs))) h
