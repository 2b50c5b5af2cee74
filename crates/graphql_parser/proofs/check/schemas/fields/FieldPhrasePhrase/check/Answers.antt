use Rattle.std.proofs.Common.{false}
use Rattle.graphql_grammar.specs.reading.Arguments.{directives_at}
use Rattle.graphql_grammar.specs.reading.Types.{type_at}
use Rattle.graphql_reading.specs.grammar.Tests.{any_name, punct}
use Rattle.graphql_reading.specs.reading.Outcome.{one_at, then_at, opt_at}
use Rattle.graphql_schemas.specs.grammar.Fields.{field_definition_of}
use Rattle.graphql_schemas.specs.reading.Descriptions.{maybe_description_at}
use Rattle.graphql_schemas.specs.reading.InputValues.{arguments_definition_at}
use Rattle.graphql_parser.proofs.Lines.{mapped-goes, then-goes, described-go, typed-go}
use Rattle.graphql_parser.proofs.check.schemas.fields.FieldPhrasePhrase.check.Goals as goal

pub returns-clause-checks : goal.returns-clause-checks
returns-clause-checks c =
    let result = c.check_const_directives.result in
    let new = c.check_const_directives.new.parser in
    let directives = directives_at false c.args.limits.values in
    let typed = then_at (one_at (punct ":")) (then_at (type_at c.args.limits.types) directives) in
    let arguments = opt_at (punct "(") (arguments_definition_at c.args.limits) in
    mapped-goes field_definition_of result c.args.parser.now new (then_at maybe_description_at (then_at (one_at any_name) (then_at arguments typed)))
    (described-go result _ c.args.parser.now c.check_maybe_description.new.parser c.expect_name.new.self new (then_at arguments typed) c.in_ok-check_maybe_description.ensures.checks c.in_ok-expect_name.ensures.name
    (then-goes result c.expect_name.new.self c.check_maybe_arguments_definition.new.parser new arguments typed c.in_ok-check_maybe_arguments_definition.ensures.checks.0 c.in_ok-check_maybe_arguments_definition.ensures.checks.1
    (typed-go result c.args.limits _ c.check_maybe_arguments_definition.new.parser c.expect_punct.new.self c.check_type.new.parser new directives c.in_ok-expect_punct.ensures.gives c.in_ok-check_type.ensures.checks c.check_const_directives.ensures.checks)))
