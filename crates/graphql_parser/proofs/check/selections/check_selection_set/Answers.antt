use Rattle.graphql_parser.proofs.Calm.{calm-on}
use Rattle.std.proofs.Common.{◌-◌, nat_lt, sym, ap, ◌∙◌, arith}
use Rattle.std.proofs.lemmas.Result.{err_from_is_err_and}
use Rattle.graphql_tokens.specs.tokens.Seen.{seen}
use Rattle.graphql_parser.proofs.OpenSets.{kept-first, opens-not, goes-on, head-not, passes, enters, head-shorter, end-not, ends, leaves}
use Rattle.graphql_parser.proofs.check.selections.check_selection_set.Goals as goal

pub returns-in_err-expect_punct-clause-checks : goal.returns-in_err-expect_punct-clause-checks
returns-in_err-expect_punct-clause-checks c =
    let p = err_from_is_err_and c.from_residual.result c.from_residual.ensures.1 in
    rw (p.1, p.2) (opens-not c.args.limits.values c.args.limits.selections c.args.parser.now c.expect_punct.new.self _ c.in_err-expect_punct.ensures.gives.0 c.in_err-expect_punct.ensures.gives.1)

pub loop-parser-init : goal.loop-parser-init
loop-parser-init c = (
  kept-first c.args.limits.values c.args.limits.selections c.args.parser.now c.expect_punct.new.self (seen c.in_ok-expect_punct.field-0) c.in_ok-expect_punct.ensures.gives.0 c.in_ok-expect_punct.ensures.gives.1,
  (c.expect_punct.ensures.memory, c.expect_punct.ensures.saves),
  c.in_ok-expect_punct.ensures.pays,
)

pub returns-in_err-is_wanted-clause-checks : goal.returns-in_err-is_wanted-clause-checks
returns-in_err-is_wanted-clause-checks c =
    let p = err_from_is_err_and c.from_residual-in_err-is_wanted.result c.from_residual-in_err-is_wanted.ensures.1 in
    rw (p.1, p.2) (head-not (goes-on c.loop-parser.invariant.0 (sym c.is_at_head.ensures ∙ c.if-is_at_head.true)) (nat_lt c.loop-parser.outer c.selections.result) (ap (nat_lt c.loop-parser.outer) c.selections.ensures) c.check_head.new.parser _ c.in_err-is_wanted.ensures.gives.0 c.in_err-is_wanted.ensures.gives.1)

pub loop-parser-smaller-then-is_wanted : goal.loop-parser-smaller-then-is_wanted
loop-parser-smaller-then-is_wanted c = head-shorter (goes-on c.loop-parser.invariant.0 (sym c.is_at_head.ensures ∙ c.if-is_at_head.true)) (nat_lt c.loop-parser.outer c.selections.result) (ap (nat_lt c.loop-parser.outer) c.selections.ensures) c.check_head.new.parser c.in_ok-is_wanted.is_wanted c.in_ok-is_wanted.ensures.gives.0

pub loop-parser-preserved-then-is_wanted : goal.loop-parser-preserved-then-is_wanted
loop-parser-preserved-then-is_wanted c = (
  enters (goes-on c.loop-parser.invariant.0 (sym c.is_at_head.ensures ∙ c.if-is_at_head.true)) (nat_lt c.loop-parser.outer c.selections.result) (ap (nat_lt c.loop-parser.outer) c.selections.ensures) c.check_head.new.parser c.in_ok-is_wanted.is_wanted c.in_ok-is_wanted.ensures.gives.0 _ (omega arith) c.in_ok-is_wanted.ensures.gives.1 c.if-is_wanted.true,
  calm-on c.args.parser.now c.loop-parser.parser c.check_head.new.parser c.loop-parser.invariant.1 c.check_head.ensures.calm,
  (omega (arith, c.loop-parser.invariant.2, c.check_head.ensures.calm.1), omega (arith, c.loop-parser.invariant.2, c.check_head.ensures.calm.1)),
)

pub loop-parser-smaller-else-is_wanted : goal.loop-parser-smaller-else-is_wanted
loop-parser-smaller-else-is_wanted c = head-shorter (goes-on c.loop-parser.invariant.0 (sym c.is_at_head.ensures ∙ c.if-is_at_head.true)) (nat_lt c.loop-parser.outer c.selections.result) (ap (nat_lt c.loop-parser.outer) c.selections.ensures) c.check_head.new.parser c.in_ok-is_wanted.is_wanted c.in_ok-is_wanted.ensures.gives.0

pub loop-parser-preserved-else-is_wanted : goal.loop-parser-preserved-else-is_wanted
loop-parser-preserved-else-is_wanted c = (
  passes (goes-on c.loop-parser.invariant.0 (sym c.is_at_head.ensures ∙ c.if-is_at_head.true)) (nat_lt c.loop-parser.outer c.selections.result) (ap (nat_lt c.loop-parser.outer) c.selections.ensures) c.check_head.new.parser c.in_ok-is_wanted.is_wanted c.in_ok-is_wanted.ensures.gives.0 c.in_ok-is_wanted.ensures.gives.1 c.if-is_wanted.false,
  calm-on c.args.parser.now c.loop-parser.parser c.check_head.new.parser c.loop-parser.invariant.1 c.check_head.ensures.calm,
  (omega (arith, c.loop-parser.invariant.2, c.check_head.ensures.calm.1), omega (arith, c.loop-parser.invariant.2, c.check_head.ensures.calm.1)),
)

pub returns-in_err-expect_punct-2-clause-checks : goal.returns-in_err-expect_punct-2-clause-checks
returns-in_err-expect_punct-2-clause-checks c =
    let p = err_from_is_err_and c.from_residual-in_err-expect_punct-2.result c.from_residual-in_err-expect_punct-2.ensures.1 in
    rw (p.1, p.2) (end-not c.loop-parser.invariant.0 (sym c.is_at_head.ensures ∙ c.if-is_at_head.false) c.expect_punct-else-is_at_head.new.self _ c.in_err-expect_punct-2.ensures.gives.0 c.in_err-expect_punct-2.ensures.gives.1)

pub returns-then-outer-eq0-clause-checks : goal.returns-then-outer-eq0-clause-checks
returns-then-outer-eq0-clause-checks c = ends c.loop-parser.invariant.0 (sym c.is_at_head.ensures ∙ c.if-is_at_head.false) c.expect_punct-else-is_at_head.new.self (seen c.in_ok-expect_punct-2.field-0) c.in_ok-expect_punct-2.ensures.gives.0 c.in_ok-expect_punct-2.ensures.gives.1 (omega (arith, c.if-outer-eq0.true))

pub loop-parser-preserved : goal.loop-parser-preserved
loop-parser-preserved c = (
  leaves c.loop-parser.invariant.0 (sym c.is_at_head.ensures ∙ c.if-is_at_head.false) c.expect_punct-else-is_at_head.new.self (seen c.in_ok-expect_punct-2.field-0) c.in_ok-expect_punct-2.ensures.gives.0 c.in_ok-expect_punct-2.ensures.gives.1 (c.loop-parser.outer - 1) (omega (arith, c.if-outer-eq0.false)),
  calm-on c.args.parser.now c.loop-parser.parser c.expect_punct-else-is_at_head.new.self c.loop-parser.invariant.1 (c.expect_punct-else-is_at_head.ensures.memory, c.expect_punct-else-is_at_head.ensures.saves),
  (omega (arith, c.loop-parser.invariant.2, c.expect_punct-else-is_at_head.ensures.saves), omega (arith, c.loop-parser.invariant.2, c.expect_punct-else-is_at_head.ensures.saves)),
)
