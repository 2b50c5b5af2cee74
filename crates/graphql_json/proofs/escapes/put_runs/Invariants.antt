use Rattle.std.proofs.Common.{◌≡◌, ◌-◌, ◌≤◌, [], ◌∷◌, ◌++◌, cond, length, take, drop}
use Rattle.json.specs.Print.{escape}
use Rattle.graphql_json.proofs.escapes.put_runs.Given as goal

abbrev pub invariant-loop-buffer : goal.invariant-loop-buffer
invariant-loop-buffer l =
    (l.buffer.items ++ (cond l.comma (44 ∷ []) [] ++ (l.front ++ (escape (drop l.at l.text) ++ 34 ∷ []))) ≡ l.fn.buffer.items ++ (cond l.fn.comma (44 ∷ []) [] ++ 34 ∷ (escape l.text ++ 34 ∷ [])))
    × (take (length l.fn.buffer.items) l.buffer.items ≡ l.fn.buffer.items)
    × (length l.front ≤ 64)
    × (l.at ≤ length l.text)

abbrev pub decreases-loop-buffer : goal.decreases-loop-buffer
decreases-loop-buffer l = length l.text - l.at
