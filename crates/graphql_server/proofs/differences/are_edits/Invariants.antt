use Rattle.std.proofs.Common.{◌≡◌, drop}
use Rattle.graphql_server.specs.Edited.{edited_from, AreInOrder}
use Rattle.graphql_server.proofs.differences.are_edits.Given as goal

abbrev pub invariant-loop-edit : goal.invariant-loop-edit
invariant-loop-edit l = record {
  made : drop l.made l.new ≡ edited_from l.passed l.old l.new (drop l.edit-index l.edits) → l.new ≡ edited_from 0 l.old l.new l.edits;
  ordered : AreInOrder l.passed l.old (drop l.edit-index l.edits) → AreInOrder 0 l.old l.edits;
}
