use Rattle.graphql_server.specs.Changes.{AreChanged}
use Rattle.graphql_server.proofs.texts.change_many.Given as goal

abbrev pub invariant-loop-change : goal.invariant-loop-change
invariant-loop-change l = AreChanged l.encoding l.fn.document l.yielded l.pieces
