use Rattle.std.proofs.Common.{rules, ◌∙◌, ◌+◌, ◌-◌, ap, not, arith}
use Rattle.std.proofs.lemmas.Result.{err_from_is_err_and}
use Rattle.graphql_tokens.specs.declared.pos.Positioned.{Positioned}
use Rattle.graphql_tokens.specs.tokens.Seen.{seen}
use Rattle.graphql_syntax.specs.trees.TypeTree.{TypeTree, named, list}
use Rattle.graphql_grammar.proofs.TypeSteps.{type-full, type-named, type-nameless, type-ends, type-closes, type-unclosed}
use Rattle.graphql_parser.specs.Checked.{rest_of}
use Rattle.graphql_parser.proofs.check.types.check_type.Goals as goal

pub returns-in_err-opened-clause-checks : goal.returns-in_err-opened-clause-checks
returns-in_err-opened-clause-checks c =
    let p = err_from_is_err_and c.from_residual.result c.from_residual.ensures.1 in
    rw (p.1, p.2) (type-full (λ (t : Positioned TypeTree). t) c.args.limits.types c.args.parser.now c.open_lists.new.parser _ c.in_err-opened.ensures.gives)

pub returns-in_err-expect_name-clause-checks : goal.returns-in_err-expect_name-clause-checks
returns-in_err-expect_name-clause-checks c =
    let p = err_from_is_err_and c.from_residual-in_err-expect_name.result c.from_residual-in_err-expect_name.ensures.1 in
    rw (p.1, p.2) (type-nameless c.args.limits.types c.in_ok-opened.opened c.args.parser.now c.open_lists.new.parser c.in_ok-opened.ensures.gives seen (λ (t : Positioned TypeTree). t) _ c.expect_name.new.self c.in_err-expect_name.ensures.name)

pub loop-init : goal.loop-init
loop-init c =
    let item = named c.open_lists.new.parser.hand.bare.spelling (not c.take_punct.result) in (
      item,
      type-named c.args.limits.types c.in_ok-opened.opened c.args.parser.now c.open_lists.new.parser c.in_ok-opened.ensures.gives (c.in_ok-opened.opened - 0) item c.take_punct.new.self (omega arith) (search rules),
      (c.take_punct.ensures.memory ∙ c.expect_name.ensures.memory ∙ c.open_lists.ensures.memory, (omega (arith, c.in_ok-opened.ensures.pays, c.in_ok-expect_name.ensures.pays), omega (arith, c.in_ok-opened.ensures.pays, c.in_ok-expect_name.ensures.pays))),
    )

pub returns-in_err-expect_punct-clause-checks : goal.returns-in_err-expect_punct-clause-checks
returns-in_err-expect_punct-clause-checks c =
    let p = err_from_is_err_and c.from_residual-in_err-expect_punct.result c.from_residual-in_err-expect_punct.ensures.1 in
    rw (p.1, p.2) (type-unclosed c.args.limits.types (c.in_ok-opened.opened - c.loop.counter) c.loop.invariant.0 c.args.parser.now c.loop.parser c.loop.invariant.1 (c.in_ok-opened.opened - (c.loop.counter + 1)) (omega arith) seen (λ (t : Positioned TypeTree). t) _ c.expect_punct.new.self c.in_err-expect_punct.ensures.gives)

pub loop-preserved : goal.loop-preserved
loop-preserved c =
    let whole = list c.loop.invariant.0 (not c.take_punct-in-loop.result) in (
      whole,
      type-closes c.args.limits.types (c.in_ok-opened.opened - c.loop.counter) c.loop.invariant.0 c.args.parser.now c.loop.parser c.loop.invariant.1 (c.in_ok-opened.opened - (c.loop.counter + 1)) (omega arith) whole c.take_punct-in-loop.new.self (search rules),
      (c.take_punct-in-loop.ensures.memory ∙ c.expect_punct.ensures.memory ∙ c.loop.invariant.2.0, (omega (arith, c.loop.invariant.2.1, c.in_ok-expect_punct.ensures.pays), omega (arith, c.loop.invariant.2.1, c.in_ok-expect_punct.ensures.pays))),
    )

pub returns-clause-checks : goal.returns-clause-checks
returns-clause-checks c =
    let ends = type-ends c.args.limits.types (c.in_ok-opened.opened - c.loop.counter) c.loop.invariant.0 c.args.parser.now c.loop.parser c.loop.invariant.1 (omega arith) in
    (ap rest_of ends.0, ends.1)
