use Rattle.std.proofs.Common.{rules, arith, sym, ◌∙◌}
use Rattle.graphql_parser.specs.trees.RequestViews.{document_tree}
use Rattle.example_checker.proofs.Entries.{entries_many}
use Rattle.example_checker.proofs.Known.{between_start, between_next, round_same, rounds_over}
use Rattle.example_checker.proofs.Compared.{same_prices}
use Rattle.example_checker.proofs.costs.prices_of_fragments.Goals as goal

pub loop-init : goal.loop-init
loop-init c = between_start c.args.limit (document_tree c.args.document.now).fragments c.in_ok-prices.prices.items c.in_ok-prices.ensures.many c.in_ok-prices.ensures.known

pub loop-preserved : goal.loop-preserved
loop-preserved c =
    between_next c.args.limit (document_tree c.args.document.now).fragments c.loop.counter c.loop.prices.items c.in_ok-next.next.items c.loop.invariant
    (first_of (search rules, cc))

pub returns-then-eq : goal.returns-then-eq
returns-then-eq c =
    round_same c.args.limit (document_tree c.args.document.now).fragments c.loop.counter c.loop.prices.items c.in_ok-next.next.items c.loop.invariant
    (first_of (search rules, cc))
    (same_prices c.in_ok-next.next.items c.loop.prices.items (sym c.eq.ensures ∙ c.if-eq.true))

pub returns : goal.returns
returns c =
    rounds_over c.args.limit (document_tree c.args.document.now).fragments c.loop.counter c.loop.prices.items c.loop.invariant
    (let n = entries_many c.args.document.now.fragments.entries in first_of (search rules, omega arith))
