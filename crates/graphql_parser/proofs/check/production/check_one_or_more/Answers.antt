use Rattle.graphql_parser.proofs.Calm.{calm-on}
use Rattle.std.proofs.Common.{sym, ◌∙◌}
use Rattle.std.proofs.lemmas.Result.{err_from_is_err_and}
use Rattle.graphql_parser.proofs.Loops.{stops, goes, ends, shorter}
use Rattle.graphql_parser.proofs.check.production.check_one_or_more.Goals as goal

pub returns-in_err-check-clause-checks : goal.returns-in_err-check-clause-checks
returns-in_err-check-clause-checks g c =
    let p = err_from_is_err_and c.from_residual.result c.from_residual.ensures.1 in
    rw (p.1, p.2) (stops g.P.Phrase.first (g.P.Phrase.reader c.args.limits) c.loop-parser.invariant.0 c.check.new.parser _ c.in_err-check.ensures.checks.0 c.in_err-check.ensures.checks.1)

pub returns-then-not-is_next-clause-checks : goal.returns-then-not-is_next-clause-checks
returns-then-not-is_next-clause-checks g c = ends g.P.Phrase.first (g.P.Phrase.reader c.args.limits) c.loop-parser.invariant.0 c.check.new.parser c.in_ok-check.ensures.checks.0 c.in_ok-check.ensures.checks.1 (sym c.is_next.ensures ∙ c.if-not-is_next.true)

pub loop-parser-smaller : goal.loop-parser-smaller
loop-parser-smaller g c = shorter (g.P.Phrase.reader c.args.limits) c.loop-parser.parser c.check.new.parser c.requires c.in_ok-check.ensures.checks.0

pub loop-parser-preserved : goal.loop-parser-preserved
loop-parser-preserved g c = (
  goes g.P.Phrase.first (g.P.Phrase.reader c.args.limits) c.loop-parser.invariant.0 c.check.new.parser c.requires c.in_ok-check.ensures.checks.0 c.in_ok-check.ensures.checks.1 (sym c.is_next.ensures ∙ c.if-not-is_next.false),
  calm-on c.args.parser.now c.loop-parser.parser c.check.new.parser c.loop-parser.invariant.1 c.check.ensures.calm,
)
