use Rattle.std.proofs.Common.{ap, ◌∙◌, ◌++◌}
use Rattle.std.specs.Vec.Iter.{into_iter_items}
use Rattle.std.proofs.lemmas.Result.{err_from_is_err_and}
use Rattle.graphql_schemas.specs.reading.Views.{root_trees}
use Rattle.graphql_schemas.proofs.OnePassed.{one-passed}
use Rattle.graphql_schemas.proofs.Roots.{are-kept-more, sorted-stops}
use Rattle.graphql_schemas.proofs.rules.sorted.Goals as goal

pub loop-root-preserved : goal.loop-root-preserved
loop-root-preserved c = (
  tt,
  tt,
  one-passed c.loop-root.yielded c.loop-root.invariant.2 c.in-Some.ensures.steps.0,
  are-kept-more c.loop-root.yielded c.in-Some.root c.args.schema _ _ c.loop-root.invariant.3 (c.in_ok-add.ensures (root_trees c.loop-root.yielded) c.loop-root.invariant.3.holds),
)

pub returns-in_err-add : goal.returns-in_err-add
returns-in_err-add c =
    let kept = c.loop-root.invariant in
    let front = c.loop-root.yielded in
    let p = err_from_is_err_and c.from_residual.result c.from_residual.ensures.1 in
    rw (p.1, p.2) (sorted-stops c.args.roots.items front (into_iter_items c.next.new.self) c.in-Some.root c.args.schema _ c.add.new.self _ (kept.2 ∙ ap (λ l. front ++ l) c.in-Some.ensures.steps.0) kept.3 (c.in_err-add.ensures (root_trees front) kept.3.holds))
