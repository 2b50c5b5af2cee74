use Rattle.graphql_parser.proofs.Calm.{calm, calm-on}
use Rattle.std.proofs.Common.{sym, ◌∙◌}
use Rattle.std.proofs.lemmas.Result.{err_from_is_err_and}
use Rattle.graphql_parser.specs.SchemaRules.{head_of, roots_of}
use Rattle.graphql_parser.proofs.Sums.{sum-begins, sum-stops, sum-goes, sum-ends, sum-shorter}
use Rattle.graphql_schemas.proofs.SchemaProductions.{takes-root}
use Rattle.graphql_schemas.specs.reading.Schema.{root_first, root_at}
use Rattle.graphql_parser.proofs.check.schemas.schema.check_root_list.Goals as goal

pub loop-roots-init : goal.loop-roots-init
loop-roots-init c = (
  sum-begins roots_of root_first root_at c.args.parser.now c.new-roots.result c.new-roots.ensures,
  calm c.args.parser.now,
)

pub returns-in_err-check_root-clause-gives : goal.returns-in_err-check_root-clause-gives
returns-in_err-check_root-clause-gives c =
    let p = err_from_is_err_and c.from_residual.result c.from_residual.ensures.1 in
    rw (p.1, p.2) (sum-stops head_of roots_of root_first root_at c.loop-roots.invariant.0 c.check_root.new.parser _ c.in_err-check_root.ensures.gives.0 c.in_err-check_root.ensures.gives.1)

pub returns-then-not-is_at_root-clause-gives : goal.returns-then-not-is_at_root-clause-gives
returns-then-not-is_at_root-clause-gives c = sum-ends head_of roots_of root_first root_at c.loop-roots.invariant.0 c.check_root.new.parser _ _ c.in_ok-check_root.ensures.gives.0 c.in_ok-check_root.ensures.gives.1 c.with-roots.ensures (sym c.is_at_root.ensures ∙ c.if-not-is_at_root.true)

pub loop-roots-smaller : goal.loop-roots-smaller
loop-roots-smaller c = sum-shorter head_of root_at c.loop-roots.parser c.check_root.new.parser _ takes-root c.in_ok-check_root.ensures.gives.0

pub loop-roots-preserved : goal.loop-roots-preserved
loop-roots-preserved c = (
  sum-goes head_of roots_of root_first root_at c.loop-roots.invariant.0 c.check_root.new.parser _ _ c.in_ok-check_root.ensures.gives.0 c.in_ok-check_root.ensures.gives.1 c.with-roots.ensures takes-root (sym c.is_at_root.ensures ∙ c.if-not-is_at_root.false),
  calm-on c.args.parser.now c.loop-roots.parser c.check_root.new.parser c.loop-roots.invariant.1 c.check_root.ensures.calm,
)
