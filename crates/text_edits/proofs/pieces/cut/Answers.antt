use Rattle.std.proofs.Common.{◌≡◌, All, ℕ, List, drop, sym, subst, take, ◌∙◌}
use Rattle.std.proofs.lemmas.List.Elements.{All-push}
use Rattle.std.proofs.lemmas.Str.{IsUtf8-drop}
use Rattle.std.specs.Str.{IsUtf8}
use Rattle.text_edits.specs.Pieces.{IsPiece}
use Rattle.text_edits.proofs.InPieces.{cut_next}
use Rattle.text_edits.proofs.pieces.cut.Goals as goal

pub loop-end-preserved : goal.loop-end-preserved
loop-end-preserved c =
    let rest : List ℕ = c.loop-end.rest.now in
    let end : ℕ = c.in-Some.end in
    let found = c.in-Some.ensures in
    let front : c.in_ok-new.field-0 ≡ take end rest = c.in_ok-new.ensures ∙ c.in_ok-from_str.ensures.ok ∙ c.split_at.ensures.front in
    let back : c.split_at.result.1.now ≡ drop end rest = c.split_at.ensures.back in
    let items = c.in_ok-push.ensures.items in
    let kept = c.loop-end.invariant in (
      subst IsUtf8 (sym back) (IsUtf8-drop rest end kept.0 found.boundary),
      (
        subst (All IsPiece) (sym items) (All-push IsPiece c.loop-end.front.items c.in_ok-new.field-0 kept.1.0 (subst IsPiece (sym front) found.piece)),
        cut_next c.loop-end.front.items c.push.new.self.items c.in_ok-new.field-0 rest c.split_at.result.1.now _ end items front back kept.1.1,
      ),
    )
