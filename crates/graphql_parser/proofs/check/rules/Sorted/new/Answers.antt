use Rattle.std.proofs.Common.{refl}
use Rattle.graphql_parser.proofs.Sorted.{sorted-none}
use Rattle.graphql_parser.proofs.check.rules.Sorted.new.Goals as goal

pub returns : goal.returns
returns c = sorted-none _ refl refl c.empty_ordered.ensures.empty c.empty_ordered-2.ensures.empty
