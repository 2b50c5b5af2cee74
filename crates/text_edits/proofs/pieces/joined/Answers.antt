use Rattle.std.proofs.Common.{◌≡◌, ◌++◌, List, ℕ, [], get_or, sym, ap₂, ◌∙◌, arith}
use Rattle.std.proofs.lemmas.List.{get_or_default}
use Rattle.text_edits.proofs.InPieces.{concat_next}
use Rattle.text_edits.proofs.pieces.joined.Goals as goal

pub loop-index-preserved : goal.loop-index-preserved
loop-index-preserved c =
    let piece : c.text.result.now ≡ get_or c.args.front.now c.loop-index.index [] = c.text.ensures ∙ c.index-front-index.is ∙ get_or_default c.args.front.now c.loop-index.index c.index-front-index.result [] (omega arith) in
    c.in_ok-push_str.ensures.bytes ∙ ap₂ (λ (x y : List ℕ). x ++ y) c.loop-index.invariant piece ∙ sym (concat_next c.loop-index.index c.args.front.now (omega arith))
