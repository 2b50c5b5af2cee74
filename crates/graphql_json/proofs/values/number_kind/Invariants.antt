use Rattle.std.proofs.Common.{◌≡◌, drop}
use Rattle.std.specs.List.{list_any}
use Rattle.graphql_json.specs.nodes.Values.{marks_float}
use Rattle.graphql_json.proofs.values.number_kind.Given as goal

abbrev pub invariant-loop-byte : goal.invariant-loop-byte
invariant-loop-byte l = list_any marks_float (drop l.byte-index l.byte-items) ≡ list_any marks_float l.byte-items
