-- The first line of a text, and the lines after it.
use Rattle.std.proofs.Common.{◌≡◌, ℕ, ◌≤◌, ◌⊎◌, Bool, true, false, not, eqb, ◌&&◌, ◌||◌, List, [], ◌∷◌, ◌++◌, refl, sym, ap, ◌∙◌, arith, inl, inr}
use Rattle.std.proofs.lemmas.Bool.{cases_Bool, eqb-true}
use Rattle.std.proofs.lemmas.List.{append-nil}
use Rattle.std.specs.List.{AllByRecursion}
use Rattle.text_edits.specs.declared.Encoding.TheVariants.{Utf8}
use Rattle.text_edits.specs.Lines.{begins_with_line_feed, ends_line, onto_first_line, lines, is_line_end, content}
use Rattle.text_edits.specs.Units.{width}

-- none of these characters ends a line
abbrev pub InLine : List ℕ → Type 0
InLine cs = AllByRecursion (λ c. is_line_end c ≡ false) cs

-- with these characters a line ends, before the rest
abbrev pub IsEnd : List ℕ → List ℕ → Type 0
IsEnd end rest = (end ≡ 10 ∷ []) ⊎ ((end ≡ 13 ∷ 10 ∷ []) ⊎ ((end ≡ 13 ∷ []) × (begins_with_line_feed rest ≡ false)))

-- ---- what it contains

pub content_all : (cs : List ℕ) → InLine cs → content cs ≡ cs
content_all [] a = refl
content_all (c ∷ cs) a = rw a.0 (ap (λ (l : List ℕ). c ∷ l) (content_all cs a.1))

pub content_stop : (body : List ℕ) (c : ℕ) (rest : List ℕ) → InLine body → is_line_end c ≡ true → content (body ++ (c ∷ rest)) ≡ body
content_stop [] c rest a e = rw e refl
content_stop (b ∷ body) c rest a e = rw a.0 (ap (λ (l : List ℕ). b ∷ l) (content_stop body c rest a.1 e))

pub content_end : (body end rest more : List ℕ) → InLine body → IsEnd end rest → content (body ++ (end ++ more)) ≡ body
content_end body end rest more a (inl e) = rw e (content_stop body 10 more a refl)
content_end body end rest more a (inr (inl e)) = rw e (content_stop body 13 (10 ∷ more) a refl)
content_end body end rest more a (inr (inr e)) = rw e.0 (content_stop body 13 more a refl)

pub end_some : (end rest : List ℕ) → IsEnd end rest → 1 ≤ width Utf8 end
end_some end rest (inl e) = rw e (omega arith)
end_some end rest (inr (inl e)) = rw e (omega arith)
end_some end rest (inr (inr e)) = rw e.0 (omega arith)

-- ---- the lines

inner : (x y z : Bool) → (x || y) ≡ false → (x || (y && z)) ≡ false
inner true y z e = e
inner false true z e = absurd cc
inner false false z e = refl

pub goes_on : (c : ℕ) (cs : List ℕ) → is_line_end c ≡ false → ends_line c cs ≡ false
goes_on c cs e = inner (eqb c 10) (eqb c 13) (not (begins_with_line_feed cs)) e

pub lines_all : (cs : List ℕ) → InLine cs → lines cs ≡ cs ∷ []
lines_all [] a = refl
lines_all (c ∷ cs) a = rw (goes_on c cs a.0) (ap (onto_first_line c) (lines_all cs a.1))

lines_onto : (body here first : List ℕ) (more : List (List ℕ)) → InLine body → lines here ≡ first ∷ more → lines (body ++ here) ≡ (body ++ first) ∷ more
lines_onto [] here first more a e = e
lines_onto (b ∷ body) here first more a e = rw (goes_on b (body ++ here) a.0) (ap (onto_first_line b) (lines_onto body here first more a.1 e))

lines_here : (end rest : List ℕ) → IsEnd end rest → lines (end ++ rest) ≡ end ∷ lines rest
lines_here end rest (inl e) = rw e refl
lines_here end rest (inr (inl e)) = rw e refl
lines_here end rest (inr (inr e)) = rw e.0 (rw e.1 refl)

pub lines_end : (body end rest : List ℕ) → InLine body → IsEnd end rest → lines (body ++ (end ++ rest)) ≡ (body ++ end) ∷ lines rest
lines_end body end rest a e = lines_onto body (end ++ rest) end (lines rest) a (lines_here end rest e)

-- ---- each text is one line, or has a first one with an end

pub record More (cs : List ℕ) : Type 0 where
  pub body : List ℕ
  pub end : List ℕ
  pub rest : List ℕ
  pub whole : cs ≡ body ++ (end ++ rest)
  pub in_line : InLine body
  pub is : IsEnd end rest

pub first_line : (cs : List ℕ) → InLine cs ⊎ More cs
first_line [] = inl tt
first_line (c ∷ cs) = by (cases_Bool (eqb c 10)) (cases_Bool (eqb c 13)) (first_line cs)
  where
    return : (cs : List ℕ) → More (13 ∷ cs)
    return [] = record { body = []; end = 13 ∷ []; rest = []; whole = refl; in_line = tt; is = inr (inr (refl, refl)) }
    return (d ∷ ds) = after (cases_Bool (eqb d 10))
      where
        after : (eqb d 10 ≡ true) ⊎ (eqb d 10 ≡ false) → More (13 ∷ d ∷ ds)
        after (inl e) = record { body = []; end = 13 ∷ 10 ∷ []; rest = ds; whole = ap (λ x. 13 ∷ x ∷ ds) (eqb-true d 10 e); in_line = tt; is = inr (inl refl) }
        after (inr e) = record { body = []; end = 13 ∷ []; rest = d ∷ ds; whole = refl; in_line = tt; is = inr (inr (refl, e)) }

    by : (eqb c 10 ≡ true) ⊎ (eqb c 10 ≡ false) → (eqb c 13 ≡ true) ⊎ (eqb c 13 ≡ false) → InLine cs ⊎ More cs → InLine (c ∷ cs) ⊎ More (c ∷ cs)
    by (inl feed) t f = inr (record { body = []; end = 10 ∷ []; rest = cs; whole = ap (λ x. x ∷ cs) (eqb-true c 10 feed); in_line = tt; is = inl refl })
    by (inr no_feed) (inl back) f = inr (rw (eqb-true c 13 back) (return cs))
    by (inr no_feed) (inr other) (inl all) = inl (rw (no_feed, other) refl, all)
    by (inr no_feed) (inr other) (inr more) = inr (record {
      body = c ∷ more.body;
      end = more.end;
      rest = more.rest;
      whole = ap (λ (l : List ℕ). c ∷ l) more.whole;
      in_line = (rw (no_feed, other) refl, more.in_line);
      is = more.is;
    })

-- ---- there is always a line

pub record Some (cs : List ℕ) : Type 0 where
  pub first : List ℕ
  pub more : List (List ℕ)
  pub is : lines cs ≡ first ∷ more
  pub holds : content first ≡ content cs

pub lines_some : (cs : List ℕ) → Some cs
lines_some cs = by (first_line cs)
  where
    by : InLine cs ⊎ More cs → Some cs
    by (inl all) = record { first = cs; more = []; is = lines_all cs all; holds = refl }
    by (inr m) = record {
      first = m.body ++ m.end;
      more = lines m.rest;
      is = ap lines m.whole ∙ lines_end m.body m.end m.rest m.in_line m.is;
      holds = ap content (ap (λ (l : List ℕ). m.body ++ l) (sym (append-nil m.end))) ∙ content_end m.body m.end m.rest [] m.in_line m.is ∙ sym (content_end m.body m.end m.rest m.rest m.in_line m.is) ∙ sym (ap content m.whole);
    }
