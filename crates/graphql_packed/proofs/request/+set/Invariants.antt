use Rattle.std.proofs.Common.{◌≡◌, ◌++◌, drop}
use Rattle.graphql_parser.specs.trees.Request.{set_of}
use Rattle.graphql_parser.specs.trees.RequestViews.{selection_trees}
use Rattle.graphql_packed.specs.packed.Requests.{selections_bytes}
use Rattle.graphql_packed.proofs.request.+set.Given as goal

abbrev pub invariant-pack_selections-loop-item : goal.invariant-pack_selections-loop-item
invariant-pack_selections-loop-item l =
    let rest = selections_bytes (set_of (selection_trees (drop l.item-index l.item-items))) in
    let all = selections_bytes (set_of (selection_trees l.item-items)) in
    l.buffer ++ rest ≡ l.initial.buffer ++ all
