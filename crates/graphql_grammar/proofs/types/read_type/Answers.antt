use Rattle.std.proofs.Common.{rules, ap, ◌∙◌, ◌-◌, ◌+◌, sym, not, arith}
use Rattle.std.proofs.lemmas.Result.{err_from_is_err_and}
use Rattle.graphql_tokens.specs.declared.pos.Pos.{Pos}
use Rattle.graphql_tokens.specs.declared.pos.Positioned.{Positioned}
use Rattle.graphql_tokens.specs.tokens.Token.{Token}
use Rattle.graphql_tokens.specs.tokens.Seen.{seen}
use Rattle.graphql_syntax.specs.trees.Parts.{placed}
use Rattle.graphql_syntax.specs.trees.TypeTree.{named, list, type_tree}
use Rattle.graphql_reading.specs.reading.Ahead.{tokens}
use Rattle.graphql_reading.specs.reading.Outcome.{Read}
use Rattle.graphql_grammar.proofs.TypeSteps.{type-full, type-named, type-nameless, type-ends, type-closes, type-unclosed}
use Rattle.graphql_grammar.proofs.types.read_type.Goals as goal

pub returns-in_err-opened-clause-gives : goal.returns-in_err-opened-clause-gives
returns-in_err-opened-clause-gives c =
    let p = err_from_is_err_and c.from_residual.result c.from_residual.ensures.1 in
    rw (p.1, p.2) (type-full (placed type_tree) c.args.limits.types c.args.parser.now c.open_lists.new.parser _ c.in_err-opened.ensures.gives)

pub returns-in_err-token-clause-gives : goal.returns-in_err-token-clause-gives
returns-in_err-token-clause-gives c =
    let p = err_from_is_err_and c.from_residual-in_err-token.result c.from_residual-in_err-token.ensures.1 in
    rw (p.1, p.2) (type-nameless c.args.limits.types c.in_ok-opened.opened c.args.parser.now c.open_lists.new.parser c.in_ok-opened.ensures.gives seen (placed type_tree) _ c.expect_name.new.self c.in_err-token.ensures.name)

pub loop-init : goal.loop-init
loop-init c = (
  type-named c.args.limits.types c.in_ok-opened.opened c.args.parser.now c.open_lists.new.parser c.in_ok-opened.ensures.gives (c.in_ok-opened.opened - 0) (named c.in_ok-name.name (not c.take_punct-nullable.result)) c.take_punct-nullable.new.self (omega arith) (search rules),
  (omega (arith, c.in_ok-opened.ensures.pays, c.in_ok-token.ensures.pays), omega (arith, c.in_ok-opened.ensures.pays, c.in_ok-token.ensures.pays)),
)

pub returns-in_err-expect_punct-clause-gives : goal.returns-in_err-expect_punct-clause-gives
returns-in_err-expect_punct-clause-gives c =
    let p = err_from_is_err_and c.from_residual-in_err-expect_punct.result c.from_residual-in_err-expect_punct.ensures.1 in
    rw (p.1, p.2) (type-unclosed c.args.limits.types (c.in_ok-opened.opened - c.loop.counter) (type_tree c.loop.ty) c.args.parser.now c.loop.parser c.loop.invariant.0 (c.in_ok-opened.opened - (c.loop.counter + 1)) (omega arith) seen (placed type_tree) _ c.expect_punct.new.self c.in_err-expect_punct.ensures.gives)

pub loop-preserved : goal.loop-preserved
loop-preserved c = (
  type-closes c.args.limits.types (c.in_ok-opened.opened - c.loop.counter) (type_tree c.loop.ty) c.args.parser.now c.loop.parser c.loop.invariant.0 (c.in_ok-opened.opened - (c.loop.counter + 1)) (omega arith) (list (type_tree c.in_ok-item.item.value) (not c.take_punct-nullable-in-loop.result)) c.boxed.new.self (search rules),
  (omega (arith, c.in_ok-expect_punct.ensures.pays, c.boxed.ensures.takes), omega (arith, c.in_ok-expect_punct.ensures.pays, c.boxed.ensures.takes)),
)

pub returns-clause-gives : goal.returns-clause-gives
returns-clause-gives c =
    let ends = type-ends c.args.limits.types (c.in_ok-opened.opened - c.loop.counter) (type_tree c.loop.ty) c.args.parser.now c.loop.parser c.loop.invariant.0 (omega arith) in
    let place = ap (λ (t : Token). t.pos) c.hand.ensures.token in
    let made = c.new.ensures ∙ ap (λ (p : Pos). record { pos = p; node = c.loop.ty }) place in
    (ends.0 ∙ ap (λ (p : Positioned _). Read (placed type_tree p) (tokens c.loop.parser)) (sym made), ends.1)
