use Rattle.std.proofs.Common.{◌≡◌, ◌++◌, [], ◌∷◌, List, false, true, eqb, get_or, string_bytes, sym, ap, ◌∙◌, ℕ}
use Rattle.std.proofs.lemmas.Str.{IsCharBoundary-after_ascii}
use Rattle.std.specs.List.{starts_with}
use Rattle.graphql_layout.proofs.Marks.{mark_begun, special_low, triple_front, triple_utf8, triple_marked, feed_marked, other_marked}
use Rattle.graphql_layout.proofs.blocks.push_mark.Goals as goal

is_triple : (c : goal.In_ok-push_str) → starts_with eqb c.args.text.now (34 ∷ 34 ∷ 34 ∷ []) ≡ true
is_triple c = ap (λ (l : List ℕ). starts_with eqb l (34 ∷ 34 ∷ 34 ∷ [])) (sym c.as_bytes.ensures.value) ∙ sym c.starts_with.ensures.value ∙ c.if-starts_with.true

pub range_from-requires : goal.range_from-requires
range_from-requires c = λ some. triple_utf8 c.args.text.now c.utf8.text (is_triple c)

pub returns-then-starts_with : goal.returns-then-starts_with
returns-then-starts_with c =
    let text : List ℕ = c.args.text.now in
    let triple : starts_with eqb text (34 ∷ 34 ∷ 34 ∷ []) ≡ true =
    ap (λ (l : List ℕ). starts_with eqb l (34 ∷ 34 ∷ 34 ∷ [])) (sym c.as_bytes.ensures.value) ∙ sym c.starts_with.ensures.value ∙ c.if-starts_with.true in
    triple_marked c.args.line_break text c.range_from.result.now (string_bytes c.args.out.now) (string_bytes c.push_str.new.self) c.utf8.text
    (triple_front text triple ∙ ap (λ (l : List ℕ). 34 ∷ 34 ∷ 34 ∷ l) (sym c.range_from.ensures.value)) c.in_ok-push_str.ensures.bytes

pub split_at-requires : goal.split_at-requires
split_at-requires c = IsCharBoundary-after_ascii c.args.text.now 0 c.utf8.text c.requires.some (special_low (get_or c.args.text.now 0 0) c.requires.special)

pub returns-then-as_bytes-eq10 : goal.returns-then-as_bytes-eq10
returns-then-as_bytes-eq10 c =
    let mark : List ℕ = c.split_at.result.0.now in
    let m = mark_begun c.args.text.now mark c.split_at.result.1.now c.utf8.text c.requires c.split_at.ensures.front c.split_at.ensures.back in
    let feed : get_or mark 0 0 ≡ 10 = ap (λ (l : List ℕ). get_or l 0 0) (sym c.as_bytes-2.ensures.value) ∙ c.if-as_bytes-eq10.true in
    feed_marked c.args.line_break (get_or mark 0 0) c.args.text.now c.split_at.result.1.now (string_bytes c.args.out.now) (string_bytes c.push_break.new.out) c.utf8.text m.0 feed c.in_ok-push_break.ensures

pub returns : goal.returns
returns c =
    let text : List ℕ = c.args.text.now in
    let mark : List ℕ = c.split_at.result.0.now in
    let m = mark_begun text mark c.split_at.result.1.now c.utf8.text c.requires c.split_at.ensures.front c.split_at.ensures.back in
    let none : starts_with eqb text (34 ∷ 34 ∷ 34 ∷ []) ≡ false =
    ap (λ (l : List ℕ). starts_with eqb l (34 ∷ 34 ∷ 34 ∷ [])) (sym c.as_bytes.ensures.value) ∙ sym c.starts_with.ensures.value ∙ c.if-starts_with.false in
    other_marked c.args.line_break (get_or mark 0 0) text c.split_at.result.1.now (string_bytes c.args.out.now) (string_bytes c.push_str-2.new.self) c.utf8.text m.0 m.1
    (λ e. c.if-as_bytes-eq10.false (ap (λ (l : List ℕ). get_or l 0 0) c.as_bytes-2.ensures.value ∙ e)) none
    (c.in_ok-push_str-2.ensures.bytes ∙ ap (λ (l : List ℕ). string_bytes c.args.out.now ++ l) m.2)
