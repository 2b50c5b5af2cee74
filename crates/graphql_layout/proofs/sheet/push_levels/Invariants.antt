use Rattle.std.proofs.Common.{string_bytes}
use Rattle.graphql_layout.specs.declared.ending.Ending.TheVariants.{Open}
use Rattle.graphql_layout.specs.declared.sheet.Last.TheVariants.{Other}
use Rattle.graphql_layout.specs.inner.ItemsIn.{items_in}
use Rattle.graphql_layout.specs.inner.Sheets.{Holds}
use Rattle.graphql_layout.proofs.sheet.push_levels.Given as goal

abbrev pub invariant-loop : goal.invariant-loop
invariant-loop l = Holds (string_bytes l.text) (Other Open) (items_in (string_bytes l.fn.text))

abbrev pub invariant-loop-2 : goal.invariant-loop-2
invariant-loop-2 l = Holds (string_bytes l.text) (Other Open) (items_in (string_bytes l.fn.text))
