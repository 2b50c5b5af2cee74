-- The lines up to the last that isn't blank.
use Rattle.std.proofs.Common.{◌≡◌, ℕ, zero, suc, ◌+◌, ◌-◌, ◌≤◌, ◌<◌, Bool, true, false, cond, eqb, ◌&&◌, ◌⊎◌, List, [], ◌∷◌, ◌++◌, length, take, drop, get_or, refl, sym, ap, ◌∙◌, inl, inr, arith, length-drop, length-append}
use Rattle.std.proofs.Math.Seq.{drop-cons, take-add, take-append_seam, drop-append_seam}
use Rattle.std.proofs.lemmas.Bool.{cases_lt}
use Rattle.std.proofs.lemmas.Bool.Decides.{nat_tests}
use Rattle.std.proofs.lemmas.List.{append-nil, take_all, take-append-drop, get_or-drop, drop-drop}
use Rattle.std.proofs.lemmas.List.Folds.{list_all-append}
use Rattle.std.proofs.lemmas.List.Sums.{prefix_len-le-length}
use Rattle.std.specs.List.{list_all, prefix_len}
use Rattle.graphql_tokens.specs.tokens.Place.{is_in_line}
use Rattle.graphql_tokens.specs.tokens.BlockText.{lines_of, onto_line, is_blank_char, is_blank, to_text}
use Rattle.graphql_tokens.specs.inner.Blocks.{is_space, end_len, first_line, EndsText}
use Rattle.graphql_tokens.proofs.EscapeUnits.{both, prefix_passes}
use Rattle.graphql_tokens.proofs.BlockLines.{line_last, line_more, line_boundary, line_end_of}

-- the last line isn't blank
abbrev pub Ends : List (List ℕ) → Type 0
Ends [] = ⊥
Ends (line ∷ []) = is_blank line ≡ false
Ends (line ∷ next ∷ lines) = Ends (next ∷ lines)

and_false : (b c : Bool) → c ≡ false → (b && c) ≡ false
and_false true c h = h
and_false false c h = refl

ends_text : (lines : List (List ℕ)) → Ends lines → list_all is_blank lines ≡ false
ends_text [] h = absurd h
ends_text (line ∷ []) h = ap (λ b. b && true) h
ends_text (line ∷ next ∷ lines) h = and_false (is_blank line) (list_all is_blank (next ∷ lines)) (ends_text (next ∷ lines) h)

to_text_blank : (lines : List (List ℕ)) → list_all is_blank lines ≡ true → to_text lines ≡ []
to_text_blank [] h = refl
to_text_blank (line ∷ lines) h = ap (λ b. cond b [] (line ∷ to_text lines)) h

pub to_text_more : (line : List ℕ) (lines : List (List ℕ)) → list_all is_blank (line ∷ lines) ≡ false → to_text (line ∷ lines) ≡ line ∷ to_text lines
to_text_more line lines h = ap (λ b. cond b [] (line ∷ to_text lines)) h

to_text-append : (lines blanks : List (List ℕ)) → Ends lines → list_all is_blank blanks ≡ true → to_text (lines ++ blanks) ≡ lines
to_text-append [] blanks h b = absurd h
to_text-append (line ∷ []) blanks h b = to_text_more line blanks (ap (λ x. x && list_all is_blank blanks) h) ∙ ap (λ x. line ∷ x) (to_text_blank blanks b)
to_text-append (line ∷ next ∷ lines) blanks h b =
    let some : list_all is_blank ((next ∷ lines) ++ blanks) ≡ false = list_all-append is_blank (next ∷ lines) blanks ∙ ap (λ x. x && list_all is_blank blanks) (ends_text (next ∷ lines) h) in
    to_text_more line ((next ∷ lines) ++ blanks) (and_false (is_blank line) (list_all is_blank ((next ∷ lines) ++ blanks)) some) ∙ ap (λ x. line ∷ x) (to_text-append (next ∷ lines) blanks h b)

-- ---- lines of spaces

space_blank : (c : ℕ) → is_space c ≡ true → eqb c 10 ≡ false → eqb c 13 ≡ false → is_blank_char c ≡ true
space_blank c h a b = grind (arith, nat_tests)

onto_blank : (c : ℕ) (lines : List (List ℕ)) → is_blank_char c ≡ true → list_all is_blank lines ≡ true → list_all is_blank (onto_line c lines) ≡ true
onto_blank c [] h b = ap (λ x. (x && true) && true) h
onto_blank c (line ∷ lines) h b = ap (λ x. (x && is_blank line) && list_all is_blank lines) h ∙ b

lines_blank : (t : List ℕ) → ((k : ℕ) → k < length t → is_space (get_or t k 0) ≡ true) → list_all is_blank (lines_of t) ≡ true
lines_blank [] h = refl
lines_blank (c ∷ cs) h = by (eqb c 10) (eqb c 13) (eqb (get_or cs 0 0) 10) refl refl (lines_blank cs (λ k l. h (suc k) (omega arith)))
  where
    by : (a b d : Bool) → eqb c 10 ≡ a → eqb c 13 ≡ b → list_all is_blank (lines_of cs) ≡ true
        → list_all is_blank (cond a ([] ∷ lines_of cs) (cond b (cond d (lines_of cs) ([] ∷ lines_of cs)) (onto_line c (lines_of cs)))) ≡ true
    by true b d x y r = r
    by false true true x y r = r
    by false true false x y r = r
    by false false d x y r = onto_blank c (lines_of cs) (space_blank c (h 0 (omega arith)) x y) r

-- ---- a text that ends in a line that isn't blank

all_front : (p : ℕ → Bool) (xs rest : List ℕ) → list_all p xs ≡ true → prefix_len p (xs ++ rest) ≡ length xs + prefix_len p rest
all_front p [] rest h = omega arith
all_front p (x ∷ xs) rest h = let e = both (p x) (list_all p xs) h in let r = all_front p xs rest e.1 in ap (λ b. cond b (1 + prefix_len p (xs ++ rest)) 0) e.0 ∙ omega arith

onto_ends : (c : ℕ) (lines : List (List ℕ)) → Ends lines → Ends (onto_line c lines)
onto_ends c [] h = absurd h
onto_ends c (line ∷ []) h = and_false (is_blank_char c) (is_blank line) h
onto_ends c (line ∷ next ∷ lines) h = h

nil_ends : (lines : List (List ℕ)) → Ends lines → Ends ([] ∷ lines)
nil_ends [] h = absurd h
nil_ends (line ∷ lines) h = h

onto-append : (c : ℕ) (lines more : List (List ℕ)) → Ends lines → onto_line c (lines ++ more) ≡ onto_line c lines ++ more
onto-append c [] more h = absurd h
onto-append c (line ∷ lines) more h = refl

line_text : (x : ℕ) (b : List ℕ) → list_all is_in_line (x ∷ b) ≡ true → lines_of (x ∷ b) ≡ (x ∷ b) ∷ []
line_text x b h = line_last (x ∷ b) (ap (prefix_len is_in_line) (sym (append-nil (x ∷ b))) ∙ all_front is_in_line (x ∷ b) [] h ∙ omega arith)

lines_end : (a : List ℕ) (x : ℕ) (b : List ℕ) → is_blank_char x ≡ false → list_all is_in_line (x ∷ b) ≡ true → Ends (lines_of (a ++ (x ∷ b)))
lines_end [] x b n h = rw (line_text x b h) (ap (λ t. t && is_blank b) n)
lines_end (c ∷ a) x b n h = by (eqb c 10) (eqb c 13) (eqb (get_or (a ++ (x ∷ b)) 0 0) 10) (lines_end a x b n h)
  where
    by : (p q r : Bool) → Ends (lines_of (a ++ (x ∷ b)))
        → (let lines = lines_of (a ++ (x ∷ b)) in Ends (cond p ([] ∷ lines) (cond q (cond r lines ([] ∷ lines)) (onto_line c lines))))
    by true q r e = nil_ends (lines_of (a ++ (x ∷ b))) e
    by false true true e = e
    by false true false e = nil_ends (lines_of (a ++ (x ∷ b))) e
    by false false r e = onto_ends c (lines_of (a ++ (x ∷ b))) e

front_same : (a : List ℕ) (x : ℕ) (b v : List ℕ) → get_or ((a ++ (x ∷ b)) ++ v) 0 0 ≡ get_or (a ++ (x ∷ b)) 0 0
front_same [] x b v = refl
front_same (c ∷ a) x b v = refl

lines_cut : (a : List ℕ) (x : ℕ) (b : List ℕ) (e : ℕ) (w : List ℕ) → is_blank_char x ≡ false → list_all is_in_line (x ∷ b) ≡ true → is_in_line e ≡ false
    → lines_of ((a ++ (x ∷ b)) ++ (e ∷ w)) ≡ lines_of (a ++ (x ∷ b)) ++ lines_of (drop (end_len (e ∷ w)) (e ∷ w))
lines_cut [] x b e w n h s =
    let line = x ∷ b in
    let t = line ++ (e ∷ w) in
    let ends : prefix_len is_in_line (e ∷ w) ≡ 0 = ap (λ b. cond b (1 + prefix_len is_in_line w) 0) s in
    let len : prefix_len is_in_line t ≡ length line = all_front is_in_line line (e ∷ w) h ∙ omega arith in
    line_more t (omega (arith, len, length-append line (e ∷ w)))
    ∙ ap (λ k. take k t ∷ lines_of (drop (end_len (drop k t)) (drop k t))) len
    ∙ ap (λ y. y ∷ lines_of (drop (end_len (drop (length line) t)) (drop (length line) t))) (take-append_seam line (e ∷ w))
    ∙ ap (λ y. line ∷ lines_of (drop (end_len y) y)) (drop-append_seam line (e ∷ w))
    ∙ ap (λ y. y ++ lines_of (drop (end_len (e ∷ w)) (e ∷ w))) (sym (line_text x b h))
lines_cut (c ∷ a) x b e w n h s =
    let t = a ++ (x ∷ b) in
    let more = lines_of (drop (end_len (e ∷ w)) (e ∷ w)) in
    let r = lines_cut a x b e w n h s in
    ap (λ y. cond (eqb c 10) ([] ∷ y) (cond (eqb c 13) (cond (eqb (get_or (t ++ (e ∷ w)) 0 0) 10) y ([] ∷ y)) (onto_line c y))) r
    ∙ ap (λ y. cond (eqb c 10) ([] ∷ (lines_of t ++ more)) (cond (eqb c 13) (cond (eqb y 10) (lines_of t ++ more) ([] ∷ (lines_of t ++ more))) (onto_line c (lines_of t ++ more)))) (front_same a x b (e ∷ w))
    ∙ by (eqb c 10) (eqb c 13) (eqb (get_or t 0 0) 10) (lines_end a x b n h)
  where
    by : (p q r : Bool) → Ends (lines_of (a ++ (x ∷ b)))
        → (let lines = lines_of (a ++ (x ∷ b)) in let more = lines_of (drop (end_len (e ∷ w)) (e ∷ w)) in
        cond p ([] ∷ (lines ++ more)) (cond q (cond r (lines ++ more) ([] ∷ (lines ++ more))) (onto_line c (lines ++ more)))
        ≡ cond p ([] ∷ lines) (cond q (cond r lines ([] ∷ lines)) (onto_line c lines)) ++ more)
    by true q r f = refl
    by false true true f = refl
    by false true false f = refl
    by false false r f = onto-append c (lines_of (a ++ (x ∷ b))) (lines_of (drop (end_len (e ∷ w)) (e ∷ w))) f

-- ---- by offsets

first_blank : (lines : List (List ℕ)) → list_all is_blank lines ≡ true → is_blank (first_line lines) ≡ true
first_blank [] h = refl
first_blank (line ∷ lines) h = (both (is_blank line) (list_all is_blank lines) h).0

-- the spaces end after a character that is none
pub record Spaces (bs : List ℕ) (end : ℕ) : Type 0 where
  pub within : end ≤ length bs
  pub spaces : (k : ℕ) → end ≤ k → k < length bs → is_space (get_or bs k 0) ≡ true
  pub stops : 0 < end → is_space (get_or bs (end - 1) 0) ≡ false

not_space : (c : ℕ) → is_space c ≡ false → (is_blank_char c ≡ false) × (is_in_line c ≡ true)
not_space c h = (grind (arith, nat_tests), grind (arith, nat_tests))

pub ends_text_at : (bs : List ℕ) (end p : ℕ) → Spaces bs end → is_blank (first_line (lines_of bs)) ≡ false → p ≡ end + prefix_len is_in_line (drop end bs) → EndsText bs p
ends_text_at bs zero p s f e =
    let all = lines_blank bs (λ k l. s.spaces k (omega arith) l) in
    let blank = first_blank (lines_of bs) all in
    absurd (cc)
ends_text_at bs (suc last) p s f e =
    let end = suc last in
    let n = prefix_len is_in_line (drop end bs) in
    let x = get_or bs last 0 in
    let k : end - 1 ≡ last = omega arith in
    let none = not_space x (ap (λ i. is_space (get_or bs i 0)) (sym k) ∙ s.stops (omega arith)) in
    let a = take last bs in
    let b = take n (drop end bs) in
    let inside : last < length bs = omega (arith, s.within) in
    let w : p ≤ length bs = omega (arith, s.within, prefix_len-le-length is_in_line (drop end bs), length-drop end bs) in
    let line : list_all is_in_line (x ∷ b) ≡ true = ap (λ t. t && list_all is_in_line b) none.1 ∙ prefix_passes is_in_line (drop end bs) in
    let count : p ≡ last + suc n = omega arith in
    let front : take p bs ≡ a ++ (x ∷ b) = ap (λ i. take i bs) count ∙ take-add last (suc n) bs ∙ ap (λ y. a ++ take (suc n) y) (drop-cons bs last 0 inside) in
    record { within = w; boundary = line_boundary bs end p e w; lines = by a x b none.0 line front (cases_lt p (length bs)) }
  where
    rest_blank : p < length bs → list_all is_blank (lines_of (drop (end_len (drop p bs)) (drop p bs))) ≡ true
    rest_blank l = lines_blank (drop (end_len (drop p bs)) (drop p bs)) (λ k m. ap is_space (ap (λ y. get_or y k 0) (drop-drop (end_len (drop p bs)) p bs) ∙ get_or-drop (p + end_len (drop p bs)) bs k 0)
        ∙ s.spaces (p + end_len (drop p bs) + k) (omega arith) (omega (arith, length-drop (end_len (drop p bs)) (drop p bs), length-drop p bs)))

    by : (a : List ℕ) (x : ℕ) (b : List ℕ) → is_blank_char x ≡ false → list_all is_in_line (x ∷ b) ≡ true → take p bs ≡ a ++ (x ∷ b) → (p < length bs) ⊎ (length bs ≤ p) → to_text (lines_of bs) ≡ lines_of (take p bs)
    by a x b none line front (inl l) =
        let c = get_or bs p 0 in
        let v : drop p bs ≡ c ∷ drop (suc p) bs = drop-cons bs p 0 l in
        let stops = line_end_of bs (suc last) p e l in
        let whole : bs ≡ (a ++ (x ∷ b)) ++ (c ∷ drop (suc p) bs) = sym (take-append-drop p bs) ∙ ap (λ y. y ++ drop p bs) front ∙ ap (λ y. (a ++ (x ∷ b)) ++ y) v in
        let rest = rw v at (rest_blank l) in
        ap (λ y. to_text (lines_of y)) whole
        ∙ ap to_text (lines_cut a x b c (drop (suc p) bs) none line stops)
        ∙ to_text-append (lines_of (a ++ (x ∷ b))) _ (lines_end a x b none line) rest
        ∙ ap lines_of (sym front)
    by a x b none line front (inr g) =
        let whole : bs ≡ a ++ (x ∷ b) = sym (take_all p bs g) ∙ front in
        ap (λ y. to_text (lines_of y)) whole
        ∙ ap to_text (sym (append-nil (lines_of (a ++ (x ∷ b)))))
        ∙ to_text-append (lines_of (a ++ (x ∷ b))) [] (lines_end a x b none line) refl
        ∙ ap lines_of (sym front)
