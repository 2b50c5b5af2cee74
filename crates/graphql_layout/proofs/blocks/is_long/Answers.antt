use Rattle.std.proofs.Common.{nat_lt, ap}
use Rattle.std.proofs.lemmas.Iterator.{YieldsList-from_chars}
use Rattle.std.proofs.lemmas.Iterator.Consumers.{count_from_yields_List}
use Rattle.graphql_layout.proofs.blocks.is_long.Goals as goal

pub returns : goal.returns
returns c = ap (nat_lt 70) (count_from_yields_List c.chars.result c.count.result c.count.ensures.ran (YieldsList-from_chars c.args.value.now c.utf8.value c.chars.ensures.rest))
