use Rattle.graphql_parser.proofs.Calm.{calm, calm-on}
use Rattle.std.proofs.Common.{[], refl, sym, ◌∙◌}
use Rattle.std.proofs.lemmas.Result.{err_from_is_err_and}
use Rattle.graphql_parser.specs.SchemaRules.{first_breach}
use Rattle.graphql_parser.proofs.SchemaDefinitions.{adds-breach}
use Rattle.graphql_parser.proofs.Sums.{sum-begins, sum-stops, sum-goes, sum-ends, sum-shorter}
use Rattle.graphql_schemas.proofs.SchemaFileProductions.{takes-definition}
use Rattle.graphql_schemas.specs.grammar.Rules.{breach_of}
use Rattle.graphql_schemas.specs.reading.SchemaFile.{definition_first, definition_at}
use Rattle.graphql_parser.proofs.check.schemas.definitions.check_definitions.Goals as goal

pub loop-first-init : goal.loop-first-init
loop-first-init c = (
  sum-begins first_breach definition_first (definition_at c.args.limits) c.args.parser.now _ refl,
  calm c.args.parser.now,
)

pub returns-in_err-check_definition-clause-gives : goal.returns-in_err-check_definition-clause-gives
returns-in_err-check_definition-clause-gives c =
    let p = err_from_is_err_and c.from_residual.result c.from_residual.ensures.1 in
    rw (p.1, p.2) (sum-stops (breach_of []) first_breach definition_first (definition_at c.args.limits) c.loop-first.invariant.0 c.check_definition.new.parser _ c.in_err-check_definition.ensures.gives.0 c.in_err-check_definition.ensures.gives.1)

pub returns-then-not-is_at_definition-clause-gives : goal.returns-then-not-is_at_definition-clause-gives
returns-then-not-is_at_definition-clause-gives c = sum-ends (breach_of []) first_breach definition_first (definition_at c.args.limits) c.loop-first.invariant.0 c.check_definition.new.parser _ _ c.in_ok-check_definition.ensures.gives.0 c.in_ok-check_definition.ensures.gives.1 (adds-breach _ _ _ c.or-first.ensures) (sym c.is_at_definition.ensures ∙ c.if-not-is_at_definition.true)

pub loop-first-smaller : goal.loop-first-smaller
loop-first-smaller c = sum-shorter (breach_of []) (definition_at c.args.limits) c.loop-first.parser c.check_definition.new.parser _ (takes-definition c.args.limits) c.in_ok-check_definition.ensures.gives.0

pub loop-first-preserved : goal.loop-first-preserved
loop-first-preserved c = (
  sum-goes (breach_of []) first_breach definition_first (definition_at c.args.limits) c.loop-first.invariant.0 c.check_definition.new.parser _ _ c.in_ok-check_definition.ensures.gives.0 c.in_ok-check_definition.ensures.gives.1 (adds-breach _ _ _ c.or-first.ensures) (takes-definition c.args.limits) (sym c.is_at_definition.ensures ∙ c.if-not-is_at_definition.false),
  calm-on c.args.parser.now c.loop-first.parser c.check_definition.new.parser c.loop-first.invariant.1 c.check_definition.ensures.calm,
)
