use Rattle.std.proofs.Common.{false, Err}
use Rattle.std.proofs.lemmas.Result.{err_from_is_err_and}
use Rattle.graphql_grammar.specs.reading.Arguments.{directives_at, maybe_default_at}
use Rattle.graphql_grammar.specs.reading.Types.{type_at}
use Rattle.graphql_reading.specs.grammar.Tests.{any_name, punct}
use Rattle.graphql_reading.specs.reading.Outcome.{one_at, then_at}
use Rattle.graphql_schemas.specs.grammar.InputValues.{input_value_of}
use Rattle.graphql_schemas.specs.reading.Descriptions.{maybe_description_at}
use Rattle.graphql_parser.proofs.Lines.{mapped-goes, then-goes, then-stops, described-go, typed-go}
use Rattle.graphql_parser.proofs.check.schemas.input_values.InputValuePhrasePhrase.check.Goals as goal

pub returns-clause-checks : goal.returns-clause-checks
returns-clause-checks c =
    let limits = c.args.limits in
    let new = c.check_const_directives.new.parser in
    let defaults = then_at (maybe_default_at limits.values) (directives_at false limits.values) in
    let after = then_at (one_at (punct ":")) (then_at (type_at limits.types) defaults) in
    mapped-goes input_value_of c.check_const_directives.result c.args.parser.now new (then_at maybe_description_at (then_at (one_at any_name) after))
    (described-go c.check_const_directives.result _ c.args.parser.now c.check_maybe_description.new.parser c.expect_name.new.self new after c.in_ok-check_maybe_description.ensures.checks c.in_ok-expect_name.ensures.name
    (typed-go c.check_const_directives.result limits _ c.expect_name.new.self c.expect_punct.new.self c.check_type.new.parser new defaults c.in_ok-expect_punct.ensures.gives c.in_ok-check_type.ensures.checks
    (then-goes c.check_const_directives.result c.check_type.new.parser c.check_maybe_default.new.parser new (maybe_default_at limits.values) (directives_at false limits.values) c.in_ok-check_maybe_default.ensures.checks.0 c.in_ok-check_maybe_default.ensures.checks.1 c.check_const_directives.ensures.checks)))

pub returns-in_err-check_maybe_default-clause-checks : goal.returns-in_err-check_maybe_default-clause-checks
returns-in_err-check_maybe_default-clause-checks c =
    let p = err_from_is_err_and c.from_residual-in_err-check_maybe_default.result c.from_residual-in_err-check_maybe_default.ensures.1 in
    let limits = c.args.limits in
    let new = c.check_maybe_default.new.parser in
    let defaults = then_at (maybe_default_at limits.values) (directives_at false limits.values) in
    let after = then_at (one_at (punct ":")) (then_at (type_at limits.types) defaults) in
    rw (p.1, p.2) (mapped-goes {X = Unit {0}} input_value_of (Err _) c.args.parser.now new (then_at maybe_description_at (then_at (one_at any_name) after))
    (described-go {X = Unit {0}} (Err _) _ c.args.parser.now c.check_maybe_description.new.parser c.expect_name.new.self new after c.in_ok-check_maybe_description.ensures.checks c.in_ok-expect_name.ensures.name
    (typed-go {X = Unit {0}} (Err _) limits _ c.expect_name.new.self c.expect_punct.new.self c.check_type.new.parser new defaults c.in_ok-expect_punct.ensures.gives c.in_ok-check_type.ensures.checks
    (then-stops _ c.check_type.new.parser new (maybe_default_at limits.values) (directives_at false limits.values) c.in_err-check_maybe_default.ensures.checks.0, c.in_err-check_maybe_default.ensures.checks.1))))
