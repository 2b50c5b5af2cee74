-- From a position to its offset and back, and from an offset to its position and back.
use Rattle.std.proofs.Common.{◌≡◌, ℕ, zero, suc, ◌+◌, ◌-◌, ◌≤◌, ◌<◌, ◌⊎◌, true, List, [], ◌∷◌, ◌++◌, length, refl, sym, ap, ap₂, ◌∙◌, subst, arith, inl, inr, append_assoc, length-append}
use Rattle.std.proofs.lemmas.Bool.{cases_lt}
use Rattle.std.proofs.lemmas.List.{append-nil}
use Rattle.text_edits.specs.declared.Encoding.{Encoding}
use Rattle.text_edits.specs.declared.Encoding.TheVariants.{Utf8}
use Rattle.text_edits.specs.declared.Position.{Position}
use Rattle.text_edits.specs.Lines.{begins_with_line_feed, lines, content}
use Rattle.text_edits.specs.Positions.{start_of, line_at, lines_passed, offset_in, position_in, IsPositionIn}
use Rattle.text_edits.specs.Units.{width, fitting}
use Rattle.text_edits.proofs.FirstLines.{InLine, IsEnd, More, first_line, lines_all, lines_end, lines_some, content_all, content_end, end_some}
use Rattle.text_edits.proofs.Passed.{passed_stop, passed_step}
use Rattle.text_edits.proofs.Widths.{width-append, units_some, fitting_front, fitting_all, fits}

-- ---- each line but the last is longer than what it contains

abbrev pub Lined : List (List ℕ) → Type 0
Lined [] = Unit {0}
Lined (l ∷ []) = Unit {0}
Lined (l ∷ m ∷ ls) = (width Utf8 (content l) < width Utf8 l) × Lined (m ∷ ls)

pub more_lines : (cs : List ℕ) (m : More cs) → lines cs ≡ (m.body ++ m.end) ∷ lines m.rest
more_lines cs m = ap lines m.whole ∙ lines_end m.body m.end m.rest m.in_line m.is

pub more_content : (cs : List ℕ) (m : More cs) → content (m.body ++ m.end) ≡ m.body
more_content cs m = ap content (ap (λ (l : List ℕ). m.body ++ l) (sym (append-nil m.end))) ∙ content_end m.body m.end m.rest [] m.in_line m.is

pub lined : (ls : List (List ℕ)) (cs : List ℕ) → lines cs ≡ ls → Lined ls
lined [] cs e = tt
lined (l ∷ []) cs e = tt
lined (l ∷ m ∷ ls) cs e = by (first_line cs) (λ d f. lined (m ∷ ls) d f)
  where
    by : InLine cs ⊎ More cs → ((d : List ℕ) → lines d ≡ m ∷ ls → Lined (m ∷ ls)) → Lined (l ∷ m ∷ ls)
    by (inl all) ih = let one = lines_all cs all in absurd cc
    by (inr more) ih =
        let there = more_lines cs more in
        let first : l ≡ more.body ++ more.end = cc in
        let later : lines more.rest ≡ m ∷ ls = cc in
        let short : width Utf8 (content l) ≡ width Utf8 more.body = ap (width Utf8) (ap content first ∙ more_content cs more) in
        let long : width Utf8 l ≡ width Utf8 more.body + width Utf8 more.end = ap (width Utf8) first ∙ width-append Utf8 more.body more.end in
        (omega (arith, short, long, end_some more.end more.rest more.is), ih more.rest later)

passed_at : (ls : List (List ℕ)) → Lined ls → (n w : ℕ) → n < length ls → w ≤ width Utf8 (line_at ls n) → lines_passed ls (start_of ls n + w) ≡ n
passed_at [] each n w l h = absurd (omega arith)
passed_at (l ∷ []) each zero w less h = refl
passed_at (l ∷ []) each (suc n) w less h = absurd (omega arith)
passed_at (l ∷ m ∷ ls) each zero w less h = passed_stop l m ls (0 + w) (omega (arith, each.0))
passed_at (l ∷ m ∷ ls) each (suc n) w less h =
    let there : width Utf8 l + start_of (m ∷ ls) n + w - width Utf8 l ≡ start_of (m ∷ ls) n + w = omega arith in
    passed_step l m ls (width Utf8 l + start_of (m ∷ ls) n + w) (omega arith) ∙ ap suc (ap (lines_passed (m ∷ ls)) there ∙ passed_at (m ∷ ls) each.1 n w (omega arith) h)

pub position_back : (encoding : Encoding) (cs : List ℕ) (p : Position) → IsPositionIn encoding (lines cs) p → position_in encoding (lines cs) (offset_in encoding (lines cs) p) ≡ p
position_back encoding cs p is =
    let ls : List (List ℕ) = lines cs in
    let line : List ℕ = line_at ls p.line in
    let front : fitting encoding p.character line ≡ is.front =
    ap (λ k. fitting encoding k line) is.character ∙ ap (fitting encoding (width encoding is.front)) is.whole ∙ fitting_front encoding is.front is.rest in
    let w = width Utf8 (fitting encoding p.character line) in
    let wide : w ≡ width Utf8 is.front = ap (width Utf8) front in
    let long : width Utf8 line ≡ width Utf8 is.front + width Utf8 is.rest = ap (width Utf8) is.whole ∙ width-append Utf8 is.front is.rest in
    let offset = start_of ls p.line + w in
    let passed : lines_passed ls offset ≡ p.line = passed_at ls (lined ls cs refl) p.line w is.line (omega arith) in
    let here : offset - start_of ls p.line ≡ width Utf8 is.front = omega arith in
    let column : width encoding (fitting Utf8 (offset - start_of ls (lines_passed ls offset)) (line_at ls (lines_passed ls offset))) ≡ p.character =
    ap (λ n. width encoding (fitting Utf8 (offset - start_of ls n) (line_at ls n))) passed
    ∙ ap (λ k. width encoding (fitting Utf8 k line)) here
    ∙ ap (λ (l : List ℕ). width encoding (fitting Utf8 (width Utf8 is.front) l)) is.whole
    ∙ ap (width encoding) (fitting_front Utf8 is.front is.rest) ∙ sym is.character in
    let position : ℕ → ℕ → Position = λ a b. record { line = a; character = b } in
    ap₂ position passed column

-- ---- an offset is a position

passed_less : (l : List ℕ) (ls : List (List ℕ)) (offset : ℕ) → lines_passed (l ∷ ls) offset < length (l ∷ ls)
passed_less l [] offset = omega arith
passed_less l (m ∷ ls) offset = by (cases_lt offset (width Utf8 l)) (passed_less m ls (offset - width Utf8 l))
  where
    by : (offset < width Utf8 l) ⊎ (width Utf8 l ≤ offset) → lines_passed (m ∷ ls) (offset - width Utf8 l) < length (m ∷ ls) → lines_passed (l ∷ m ∷ ls) offset < length (l ∷ m ∷ ls)
    by (inl less) ih = omega (arith, passed_stop l m ls offset less)
    by (inr more) ih = omega (arith, passed_step l m ls offset more)

pub is_position : (encoding : Encoding) (cs : List ℕ) (offset : ℕ) → IsPositionIn encoding (lines cs) (position_in encoding (lines cs) offset)
is_position encoding cs offset =
    let ls : List (List ℕ) = lines cs in
    let n = lines_passed ls offset in
    let some = lines_some cs in
    let f = fits Utf8 (offset - start_of ls n) (line_at ls n) in
    record {
      front = fitting Utf8 (offset - start_of ls n) (line_at ls n);
      rest = f.rest;
      line = subst (λ (k : List (List ℕ)). lines_passed k offset < length k) (sym some.is) (passed_less some.first some.more offset);
      whole = f.whole;
      character = refl;
    }

-- ---- the offset of the position of an offset is the same in each encoding

abbrev snap_at : List (List ℕ) → ℕ → ℕ → ℕ
snap_at ls n offset = start_of ls n + width Utf8 (fitting Utf8 (offset - start_of ls n) (line_at ls n))

abbrev pub snap : List (List ℕ) → ℕ → ℕ
snap ls offset = snap_at ls (lines_passed ls offset) offset

pub offset_back : (encoding : Encoding) (ls : List (List ℕ)) (offset : ℕ) → offset_in encoding ls (position_in encoding ls offset) ≡ snap ls offset
offset_back encoding ls offset =
    let n = lines_passed ls offset in
    let front : List ℕ = fitting Utf8 (offset - start_of ls n) (line_at ls n) in
    let f = fits Utf8 (offset - start_of ls n) (line_at ls n) in
    let same : fitting encoding (width encoding front) (line_at ls n) ≡ front = ap (fitting encoding (width encoding front)) f.whole ∙ fitting_front encoding front f.rest in
    ap (λ (l : List ℕ). start_of ls n + width Utf8 l) same

snap_first : (l : List ℕ) (ls : List (List ℕ)) (offset : ℕ) → snap_at (l ∷ ls) 0 offset ≡ width Utf8 (fitting Utf8 offset (content l))
snap_first l ls offset =
    let less : offset - 0 ≡ offset = omega arith in
    let same : width Utf8 (fitting Utf8 (offset - 0) (content l)) ≡ width Utf8 (fitting Utf8 offset (content l)) = ap (λ k. width Utf8 (fitting Utf8 k (content l))) less in
    omega (arith, same)

snap_later : (l : List ℕ) (ls : List (List ℕ)) (n offset : ℕ) → snap_at (l ∷ ls) (suc n) offset ≡ width Utf8 l + snap_at ls n (offset - width Utf8 l)
snap_later l ls n offset =
    let less : offset - (width Utf8 l + start_of ls n) ≡ offset - width Utf8 l - start_of ls n = omega arith in
    let same : width Utf8 (fitting Utf8 (offset - (width Utf8 l + start_of ls n)) (line_at ls n)) ≡ width Utf8 (fitting Utf8 (offset - width Utf8 l - start_of ls n) (line_at ls n)) =
    ap (λ k. width Utf8 (fitting Utf8 k (line_at ls n))) less in
    omega (arith, same)

snap_stop : (l m : List ℕ) (ls : List (List ℕ)) (offset : ℕ) → offset < width Utf8 l → snap (l ∷ (m ∷ ls)) offset ≡ width Utf8 (fitting Utf8 offset (content l))
snap_stop l m ls offset less = ap (λ n. snap_at (l ∷ (m ∷ ls)) n offset) (passed_stop l m ls offset less) ∙ snap_first l (m ∷ ls) offset

snap_step : (l m : List ℕ) (ls : List (List ℕ)) (offset : ℕ) → width Utf8 l ≤ offset → snap (l ∷ (m ∷ ls)) offset ≡ width Utf8 l + snap (m ∷ ls) (offset - width Utf8 l)
snap_step l m ls offset more =
    ap (λ n. snap_at (l ∷ (m ∷ ls)) n offset) (passed_step l m ls offset more) ∙ snap_later l (m ∷ ls) (lines_passed (m ∷ ls) (offset - width Utf8 l)) offset

-- an offset before whose character the first line, without its end, is cut
snap_in_line : (l m front rest : List ℕ) (ls : List (List ℕ)) → content l ≡ front ++ rest → width Utf8 front < width Utf8 l → snap (l ∷ (m ∷ ls)) (width Utf8 front) ≡ width Utf8 front
snap_in_line l m front rest ls e less =
    snap_stop l m ls (width Utf8 front) less ∙ ap (λ (k : List ℕ). width Utf8 (fitting Utf8 (width Utf8 front) k)) e ∙ ap (width Utf8) (fitting_front Utf8 front rest)

-- ---- two ways to cut the same list

record Short (xs ys us vs : List ℕ) : Type 0 where
  between : List ℕ
  longer : us ≡ xs ++ between
  shorter : ys ≡ between ++ vs

record Long (xs ys us vs : List ℕ) : Type 0 where
  first : ℕ
  between : List ℕ
  longer : xs ≡ us ++ (first ∷ between)
  shorter : vs ≡ (first ∷ between) ++ ys

meet : (xs ys us vs : List ℕ) → xs ++ ys ≡ us ++ vs → Short xs ys us vs ⊎ Long xs ys us vs
meet [] ys us vs e = inl (record { between = us; longer = refl; shorter = e })
meet (x ∷ xs) ys [] vs e = inr (record { first = x; between = xs; longer = refl; shorter = sym e })
meet (x ∷ xs) ys (u ∷ us) vs e =
    let head : x ≡ u = cc in
    let tail : xs ++ ys ≡ us ++ vs = cc in
    by head (meet xs ys us vs tail)
  where
    by : x ≡ u → Short xs ys us vs ⊎ Long xs ys us vs → Short (x ∷ xs) ys (u ∷ us) vs ⊎ Long (x ∷ xs) ys (u ∷ us) vs
    by head (inl s) = inl (record { between = s.between; longer = ap₂ (λ a (l : List ℕ). a ∷ l) (sym head) s.longer; shorter = s.shorter })
    by head (inr l) = inr (record { first = l.first; between = l.between; longer = ap₂ (λ a (k : List ℕ). a ∷ k) head l.longer; shorter = l.shorter })

-- ---- an offset in the middle of a line end

-- the first characters end in a carriage return, and the others begin with a line feed
pub record InEnd (front rest : List ℕ) : Type 0 where
  pub before : List ℕ
  pub later : List ℕ
  pub returns : front ≡ before ++ 13 ∷ []
  pub feeds : rest ≡ 10 ∷ later

-- a line end that is cut in two is the one of two characters
cut_end : (end rest us : List ℕ) (u v : ℕ) (vs : List ℕ) → IsEnd end rest → end ≡ (u ∷ us) ++ (v ∷ vs) → (u ∷ us ≡ 13 ∷ []) × (v ∷ vs ≡ 10 ∷ [])
cut_end end rest us u v vs (inl e) cut = absurd (omega (arith, ap length (sym e ∙ cut), length-append us (v ∷ vs)))
cut_end end rest us u v vs (inr (inr e)) cut = absurd (omega (arith, ap length (sym e.0 ∙ cut), length-append us (v ∷ vs)))
cut_end end rest [] u v vs (inr (inl e)) cut = let same : 13 ∷ 10 ∷ [] ≡ u ∷ v ∷ vs = sym e ∙ cut in (cc, cc)
cut_end end rest (w ∷ us) u v vs (inr (inl e)) cut = absurd (omega (arith, ap length (sym e ∙ cut), length-append us (v ∷ vs)))

-- the first line is cut before its last character, at no such place
snap_short : (body end more front between rest m : List ℕ) (x : ℕ) (ls : List (List ℕ)) → IsEnd end more → content (body ++ end) ≡ body → body ++ end ≡ front ++ (x ∷ between) → rest ≡ (x ∷ between) ++ more
    → ¬ (InEnd front rest) → snap ((body ++ end) ∷ (m ∷ ls)) (width Utf8 front) ≡ width Utf8 front
snap_short body end more front between rest m x ls is holds cut same free = by (meet body end front (x ∷ between) cut)
  where
    less : width Utf8 front < width Utf8 (body ++ end)
    less = omega (arith, ap (width Utf8) cut, width-append Utf8 front (x ∷ between), units_some Utf8 x)

    by : Short body end front (x ∷ between) ⊎ Long body end front (x ∷ between) → snap ((body ++ end) ∷ (m ∷ ls)) (width Utf8 front) ≡ width Utf8 front
    by (inr l) = snap_in_line (body ++ end) m front (l.first ∷ l.between) ls (holds ∙ l.longer) less
    by (inl s) = piece s.between s.longer s.shorter
      where
        piece : (us : List ℕ) → front ≡ body ++ us → end ≡ us ++ (x ∷ between) → snap ((body ++ end) ∷ (m ∷ ls)) (width Utf8 front) ≡ width Utf8 front
        piece [] f e = snap_in_line (body ++ end) m front [] ls (holds ∙ sym (append-nil body) ∙ sym f ∙ sym (append-nil front)) less
        piece (u ∷ us) f e =
            let two = cut_end end more us u x between is e in
            absurd (free (record {
              before = body;
              later = more;
              returns = f ∙ ap (λ (l : List ℕ). body ++ l) two.0;
              feeds = same ∙ ap (λ (l : List ℕ). l ++ more) two.1;
            }))

-- each offset between two characters is its own, but in the middle of a line end
pub snaps : (ls : List (List ℕ)) (cs front rest : List ℕ) → lines cs ≡ ls → cs ≡ front ++ rest → ¬ (InEnd front rest) → snap ls (width Utf8 front) ≡ width Utf8 front
snaps [] cs front rest e whole free = let some = lines_some cs in let is = some.is in absurd cc
snaps (l ∷ []) cs front rest e whole free = by (first_line cs)
  where
    by : InLine cs ⊎ More cs → snap (l ∷ []) (width Utf8 front) ≡ width Utf8 front
    by (inl all) =
        let one = lines_all cs all in
        let same : l ≡ cs = cc in
        let holds : content l ≡ front ++ rest = ap content same ∙ content_all cs all ∙ whole in
        snap_first l [] (width Utf8 front) ∙ ap (λ (k : List ℕ). width Utf8 (fitting Utf8 (width Utf8 front) k)) holds ∙ ap (width Utf8) (fitting_front Utf8 front rest)
    by (inr more) =
        let there = more_lines cs more in
        let some = lines_some more.rest in
        let later = some.is in
        absurd cc
snaps (l ∷ m ∷ ls) cs front rest e whole free = by (first_line cs) (λ d f r. snaps (m ∷ ls) d f r)
  where
    by : InLine cs ⊎ More cs → ((d f r : List ℕ) → lines d ≡ m ∷ ls → d ≡ f ++ r → ¬ (InEnd f r) → snap (m ∷ ls) (width Utf8 f) ≡ width Utf8 f) → snap (l ∷ m ∷ ls) (width Utf8 front) ≡ width Utf8 front
    by (inl all) ih = let one = lines_all cs all in absurd cc
    by (inr more) ih =
        let there = more_lines cs more in
        let first : l ≡ more.body ++ more.end = cc in
        let later : lines more.rest ≡ m ∷ ls = cc in
        let parts : front ++ rest ≡ (more.body ++ more.end) ++ more.rest = sym whole ∙ more.whole ∙ sym (append_assoc more.body more.end more.rest) in
        subst (λ (k : List ℕ). snap (k ∷ m ∷ ls) (width Utf8 front) ≡ width Utf8 front) (sym first) (cases later (meet front rest (more.body ++ more.end) more.rest parts))
      where
        cases : lines more.rest ≡ m ∷ ls → Short front rest (more.body ++ more.end) more.rest ⊎ Long front rest (more.body ++ more.end) more.rest → snap ((more.body ++ more.end) ∷ m ∷ ls) (width Utf8 front) ≡ width Utf8 front
        cases later (inl s) = piece s.between s.longer s.shorter
          where
            piece : (zs : List ℕ) → more.body ++ more.end ≡ front ++ zs → rest ≡ zs ++ more.rest → snap ((more.body ++ more.end) ∷ m ∷ ls) (width Utf8 front) ≡ width Utf8 front
            piece [] f r =
                let same : width Utf8 (more.body ++ more.end) ≡ width Utf8 front = ap (width Utf8) (f ∙ append-nil front) in
                let none : width Utf8 front - width Utf8 (more.body ++ more.end) ≡ width Utf8 [] = omega arith in
                let here : snap (m ∷ ls) (width Utf8 []) ≡ width Utf8 [] = ih more.rest [] more.rest later refl (λ i. absurd (omega (arith, ap length i.returns, length-append i.before (13 ∷ [])))) in
                snap_step (more.body ++ more.end) m ls (width Utf8 front) (omega arith) ∙ ap (λ k. width Utf8 (more.body ++ more.end) + snap (m ∷ ls) k) none ∙ omega (arith, here, same)
            piece (z ∷ zs) f r = snap_short more.body more.end more.rest front zs rest m z ls more.is (more_content cs more) f r free
        cases later (inr s) =
            let f : List ℕ = s.first ∷ s.between in
            let l2 : List ℕ = more.body ++ more.end in
            let long : width Utf8 front ≡ width Utf8 l2 + width Utf8 f = ap (width Utf8) s.longer ∙ width-append Utf8 l2 f in
            let left : width Utf8 front - width Utf8 l2 ≡ width Utf8 f = omega arith in
            let here : snap (m ∷ ls) (width Utf8 f) ≡ width Utf8 f = ih more.rest f rest later s.shorter (λ i. free (record {
              before = l2 ++ i.before;
              later = i.later;
              returns = s.longer ∙ ap (λ (k : List ℕ). l2 ++ k) i.returns ∙ sym (append_assoc l2 i.before (13 ∷ []));
              feeds = i.feeds;
            })) in
            snap_step l2 m ls (width Utf8 front) (omega arith) ∙ ap (λ k. width Utf8 l2 + snap (m ∷ ls) k) left ∙ omega (arith, here, long)

not_in_line : (front rest : List ℕ) → InLine (front ++ (13 ∷ rest)) → ⊥
not_in_line [] rest a = let h = a.0 in absurd cc
not_in_line (c ∷ front) rest a = not_in_line front rest a.1

-- the end of a line that begins so is the one of two characters
begins_end : (end more between later us : List ℕ) → IsEnd end more → between ++ more ≡ 10 ∷ later → end ≡ us ++ (13 ∷ between) → (us ≡ []) × (end ≡ 13 ∷ 10 ∷ [])
begins_end end more between later [] (inl e) same cut = let h : 10 ∷ [] ≡ 13 ∷ between = sym e ∙ cut in absurd cc
begins_end end more between later [] (inr (inl e)) same cut = (refl, e)
begins_end end more between later [] (inr (inr e)) same cut =
    let h : 13 ∷ [] ≡ 13 ∷ between = sym e.0 ∙ cut in
    let none : between ≡ [] = cc in
    let feed : more ≡ 10 ∷ later = sym (ap (λ (l : List ℕ). l ++ more) none) ∙ same in
    let test : begins_with_line_feed more ≡ true = ap begins_with_line_feed feed in
    let other = e.1 in
    absurd cc
begins_end end more between later (u ∷ us) (inl e) same cut = absurd (omega (arith, ap length (sym e ∙ cut), length-append us (13 ∷ between)))
begins_end end more between later (u ∷ us) (inr (inr e)) same cut = absurd (omega (arith, ap length (sym e.0 ∙ cut), length-append us (13 ∷ between)))
begins_end end more between later (u ∷ []) (inr (inl e)) same cut = let h : 13 ∷ 10 ∷ [] ≡ u ∷ 13 ∷ between = sym e ∙ cut in absurd cc
begins_end end more between later (u ∷ v ∷ us) (inr (inl e)) same cut = absurd (omega (arith, ap length (sym e ∙ cut), length-append us (13 ∷ between)))

snap_end : (body end more before between later m : List ℕ) (ls : List (List ℕ)) → InLine body → IsEnd end more → content (body ++ end) ≡ body → body ++ end ≡ before ++ (13 ∷ between) → between ++ more ≡ 10 ∷ later
    → snap ((body ++ end) ∷ (m ∷ ls)) (width Utf8 before + 1) ≡ width Utf8 before
snap_end body end more before between later m ls in_line is holds cut same = by (meet body end before (13 ∷ between) cut)
  where
    by : Short body end before (13 ∷ between) ⊎ Long body end before (13 ∷ between) → snap ((body ++ end) ∷ (m ∷ ls)) (width Utf8 before + 1) ≡ width Utf8 before
    by (inr l) =
        let first : 13 ≡ l.first = let e = l.shorter in cc in
        let there : body ≡ before ++ (13 ∷ l.between) = l.longer ∙ ap (λ x. before ++ (x ∷ l.between)) (sym first) in
        absurd (not_in_line before l.between (subst InLine there in_line))
    by (inl s) =
        let two = begins_end end more between later s.between is same s.shorter in
        let whole : before ≡ body = s.longer ∙ ap (λ (l : List ℕ). body ++ l) two.0 ∙ append-nil body in
        let short : width Utf8 before ≡ width Utf8 body = ap (width Utf8) whole in
        let long : width Utf8 (body ++ end) ≡ width Utf8 body + 2 = width-append Utf8 body end ∙ ap (λ (l : List ℕ). width Utf8 body + width Utf8 l) two.1 in
        snap_stop (body ++ end) m ls (width Utf8 before + 1) (omega arith)
        ∙ ap (λ (l : List ℕ). width Utf8 (fitting Utf8 (width Utf8 before + 1) l)) holds
        ∙ ap (width Utf8) (fitting_all Utf8 (width Utf8 before + 1) body (omega arith)) ∙ sym short

-- an offset in the middle of a line end is where that begins
pub snaps_in_end : (ls : List (List ℕ)) (cs before later : List ℕ) → lines cs ≡ ls → cs ≡ before ++ (13 ∷ 10 ∷ later) → snap ls (width Utf8 before + 1) ≡ width Utf8 before
snaps_in_end [] cs before later e whole = let some = lines_some cs in let is = some.is in absurd cc
snaps_in_end (l ∷ []) cs before later e whole = by (first_line cs)
  where
    by : InLine cs ⊎ More cs → snap (l ∷ []) (width Utf8 before + 1) ≡ width Utf8 before
    by (inl all) = absurd (not_in_line before (10 ∷ later) (subst InLine whole all))
    by (inr more) =
        let there = more_lines cs more in
        let some = lines_some more.rest in
        let more_is = some.is in
        absurd cc
snaps_in_end (l ∷ m ∷ ls) cs before later e whole = by (first_line cs) (λ d b r. snaps_in_end (m ∷ ls) d b r)
  where
    by : InLine cs ⊎ More cs → ((d b r : List ℕ) → lines d ≡ m ∷ ls → d ≡ b ++ (13 ∷ 10 ∷ r) → snap (m ∷ ls) (width Utf8 b + 1) ≡ width Utf8 b) → snap (l ∷ m ∷ ls) (width Utf8 before + 1) ≡ width Utf8 before
    by (inl all) ih = let one = lines_all cs all in absurd cc
    by (inr more) ih =
        let there = more_lines cs more in
        let first : l ≡ more.body ++ more.end = cc in
        let rest_is : lines more.rest ≡ m ∷ ls = cc in
        let parts : before ++ (13 ∷ 10 ∷ later) ≡ (more.body ++ more.end) ++ more.rest = sym whole ∙ more.whole ∙ sym (append_assoc more.body more.end more.rest) in
        subst (λ (k : List ℕ). snap (k ∷ m ∷ ls) (width Utf8 before + 1) ≡ width Utf8 before) (sym first) (cases rest_is (meet before (13 ∷ 10 ∷ later) (more.body ++ more.end) more.rest parts))
      where
        cases : lines more.rest ≡ m ∷ ls → Short before (13 ∷ 10 ∷ later) (more.body ++ more.end) more.rest ⊎ Long before (13 ∷ 10 ∷ later) (more.body ++ more.end) more.rest → snap ((more.body ++ more.end) ∷ m ∷ ls) (width Utf8 before + 1) ≡ width Utf8 before
        cases rest_is (inl s) = piece s.between s.longer s.shorter
          where
            piece : (zs : List ℕ) → more.body ++ more.end ≡ before ++ zs → 13 ∷ 10 ∷ later ≡ zs ++ more.rest → snap ((more.body ++ more.end) ∷ m ∷ ls) (width Utf8 before + 1) ≡ width Utf8 before
            piece [] f r =
                let same : width Utf8 (more.body ++ more.end) ≡ width Utf8 before = ap (width Utf8) (f ∙ append-nil before) in
                let one : width Utf8 before + 1 - width Utf8 (more.body ++ more.end) ≡ width Utf8 [] + 1 = omega arith in
                let here : snap (m ∷ ls) (width Utf8 [] + 1) ≡ width Utf8 [] = ih more.rest [] later rest_is (sym r) in
                snap_step (more.body ++ more.end) m ls (width Utf8 before + 1) (omega arith) ∙ ap (λ k. width Utf8 (more.body ++ more.end) + snap (m ∷ ls) k) one ∙ omega (arith, here, same)
            piece (z ∷ zs) f r =
                let first : z ≡ 13 = cc in
                let rest_here : zs ++ more.rest ≡ 10 ∷ later = cc in
                snap_end more.body more.end more.rest before zs later m ls more.in_line more.is (more_content cs more) (f ∙ ap (λ x. before ++ (x ∷ zs)) first) rest_here
        cases rest_is (inr s) =
            let f : List ℕ = s.first ∷ s.between in
            let line : List ℕ = more.body ++ more.end in
            let long : width Utf8 before ≡ width Utf8 line + width Utf8 f = ap (width Utf8) s.longer ∙ width-append Utf8 line f in
            let left : width Utf8 before + 1 - width Utf8 line ≡ width Utf8 f + 1 = omega arith in
            let here : snap (m ∷ ls) (width Utf8 f + 1) ≡ width Utf8 f = ih more.rest f later rest_is s.shorter in
            snap_step line m ls (width Utf8 before + 1) (omega arith) ∙ ap (λ k. width Utf8 line + snap (m ∷ ls) k) left ∙ omega (arith, here, long)
