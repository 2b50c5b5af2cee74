use Rattle.std.proofs.Common.{sym, ◌∙◌}
use Rattle.graphql_reading.proofs.Loops.{go-on}
use Rattle.graphql_parser.proofs.SchemaDefinitions.{extended-schema}
use Rattle.graphql_parser.proofs.check.schemas.definitions.check_extension.Goals as goal

pub returns-then-is_at_keyword-clause-gives : goal.returns-then-is_at_keyword-clause-gives
returns-then-is_at_keyword-clause-gives c =
    let old = c.args.parser.now in
    let mid = c.expect_keyword.new.self in
    let new = c.check_schema_extension.new.parser in (
      extended-schema c.args.limits old mid new _ _ c.breach.result c.in_ok-extend.ensures.gives.0 (sym c.is_at_keyword.ensures ∙ c.if-is_at_keyword.true) c.in_ok-roots.ensures.gives.0 c.breach.ensures,
      go-on old mid new c.in_ok-extend.ensures.gives.1 c.in_ok-roots.ensures.gives.1,
    )
