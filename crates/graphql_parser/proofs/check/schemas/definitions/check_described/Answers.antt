use Rattle.std.proofs.Common.{sym, ap, ◌∙◌}
use Rattle.graphql_reading.proofs.Loops.{go-on}
use Rattle.graphql_parser.proofs.SchemaDefinitions.{described-schema}
use Rattle.graphql_parser.proofs.check.schemas.definitions.check_described.Goals as goal

pub returns-then-is_at_keyword-clause-gives : goal.returns-then-is_at_keyword-clause-gives
returns-then-is_at_keyword-clause-gives c =
    let old = c.args.parser.now in
    let mid = c.check_maybe_description.new.parser in
    let new = c.check_schema_definition.new.parser in (
      described-schema c.args.limits old mid new _ c.breach.result c.in_ok-check_maybe_description.ensures.checks.0 (sym c.is_at_keyword.ensures ∙ c.if-is_at_keyword.true) c.in_ok-roots.ensures.gives.0
          (λ s place extend roots. c.breach.ensures s (ap (λ t. t.pos) c.hand.ensures.token ∙ place) extend roots),
      go-on old mid new c.in_ok-check_maybe_description.ensures.checks.1 c.in_ok-roots.ensures.gives.1,
    )
