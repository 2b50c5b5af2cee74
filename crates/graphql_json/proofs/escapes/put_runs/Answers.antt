use Rattle.std.proofs.Common.{◌≡◌, ◌+◌, ◌<◌, ℕ, List, [], ◌∷◌, ◌++◌, cond, take, drop, get_or, length, sym, ap, ◌∙◌, subst, arith, rules}
use Rattle.std.specs.Prelude.{OnOk}
use Rattle.json.specs.Print.{escape_byte}
use Rattle.graphql_json.proofs.Runs.{kept, moved, piece, last_piece}
use Rattle.graphql_json.proofs.escapes.put_runs.Goals as goal

pub returns-then-end-text-clause-ok : goal.returns-then-end-text-clause-ok
returns-then-end-text-clause-ok c =
    let text = c.args.text.now in
    let at = c.loop-buffer.at in
    let n = c.plain_run.result in
    let old = c.loop-buffer.buffer.items in
    let comma : List ℕ = cond c.loop-buffer.comma (44 ∷ []) [] in
    let front = c.loop-buffer.front.now in
    let wrote : OnOk c.put_run.result (c.put_run.new.self.items ≡ old ++ (comma ++ (front ++ (take n (drop at text) ++ 34 ∷ [])))) = search rules in
    let all = ap (λ l. old ++ l) (sym (last_piece comma front text at n (34 ∷ []) c.if-end-text.true c.plain_run.ensures.plain)) ∙ c.loop-buffer.invariant.0 in
    subst (λ (x : List ℕ). OnOk c.put_run.result (c.put_run.new.self.items ≡ x)) all wrote

pub loop-buffer-preserved : goal.loop-buffer-preserved
loop-buffer-preserved c =
    let text = c.args.text.now in
    let at = c.loop-buffer.at in
    let n = c.plain_run.result in
    let comma : List ℕ = cond c.loop-buffer.comma (44 ∷ []) [] in
    let front = c.loop-buffer.front.now in
    let within : at + n < length text = (let w = c.plain_run.ensures.within in let e = c.if-end-text.false in omega arith) in
    let wrote : c.put_stopped.new.buffer.items ≡ c.loop-buffer.buffer.items ++ (comma ++ (front ++ (take n (drop at text) ++ escape_byte (get_or text (at + n) 0)))) = search rules in
    (moved _ _ _ _ _ _ wrote (piece comma front text at n (34 ∷ []) within c.plain_run.ensures.plain) c.loop-buffer.invariant.0, kept _ _ _ _ wrote c.loop-buffer.invariant.1, omega arith, omega arith)
