use Rattle.std.proofs.Common.{◌≡◌, ℕ, List, ◌++◌, max, string_bytes, sym, ap, ap₂, subst, ◌∙◌}
use Rattle.std.proofs.lemmas.Str.{IsUtf8-take}
use Rattle.std.specs.Str.{chars, IsUtf8}
use Rattle.text_edits.specs.Edits.{before, from}
use Rattle.text_edits.proofs.Boundaries.{floor_is, before_floor, after_floor, chars_three}
use Rattle.text_edits.proofs.edits.replace.Goals as goal

pub returns : goal.returns
returns c =
    let text = c.args.text.now in
    let floor = floor_is text c.args.start c.floor_char_boundary.result c.utf8.text c.floor_char_boundary.ensures.bound c.floor_char_boundary.ensures.boundary c.floor_char_boundary.ensures.nearest in
    let floor2 = floor_is text c.later.result c.floor_char_boundary-2.result c.utf8.text c.floor_char_boundary-2.ensures.bound c.floor_char_boundary-2.ensures.boundary c.floor_char_boundary-2.ensures.nearest in
    let front : chars c.split_at.result.0.now ≡ before c.args.start (chars text) = ap chars c.split_at.ensures.front ∙ before_floor text c.args.start c.floor_char_boundary.result c.utf8.text floor in
    let back : chars c.split_at-2.result.1.now ≡ from (max c.args.start c.args.end) (chars text) =
    ap chars c.split_at-2.ensures.back ∙ after_floor text c.later.result c.floor_char_boundary-2.result c.utf8.text floor2 ∙ ap (λ n. from n (chars text)) c.later.ensures in
    let first : IsUtf8 c.split_at.result.0.now = subst IsUtf8 (sym c.split_at.ensures.front) (IsUtf8-take text c.floor_char_boundary.result c.utf8.text c.floor_char_boundary.ensures.boundary) in
    let bytes : string_bytes c.push_str-3.new.self ≡ (c.split_at.result.0.now ++ c.args.new.now) ++ c.split_at-2.result.1.now =
    c.in_ok-push_str-3.ensures.bytes ∙ ap (λ (l : List ℕ). l ++ c.split_at-2.result.1.now) (c.in_ok-push_str-2.ensures.bytes ∙ ap (λ (l : List ℕ). l ++ c.args.new.now)
    (c.in_ok-push_str.ensures.bytes ∙ ap (λ (l : List ℕ). l ++ c.split_at.result.0.now) c.in_ok-replaced.ensures.bytes)) in
    ap chars bytes ∙ chars_three c.split_at.result.0.now c.args.new.now c.split_at-2.result.1.now first c.utf8.new ∙ ap₂ (λ (x y : List ℕ). x ++ (chars c.args.new.now ++ y)) front back
