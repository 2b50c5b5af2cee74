use Rattle.std.proofs.Common.{◌≡◌, ◌++◌, drop}
use Rattle.graphql_parser.specs.trees.Request.{set_of}
use Rattle.graphql_parser.specs.trees.RequestViews.{selection_trees}
use Rattle.graphql_json.specs.nodes.Requests.{selections_json}
use Rattle.json.specs.Tree.{items_tokens}
use Rattle.graphql_json.proofs.request.+set.Given as goal

abbrev pub invariant-write_selections-loop-item : goal.invariant-write_selections-loop-item
invariant-write_selections-loop-item l =
    let rest = items_tokens (selections_json l.place (set_of (selection_trees (drop l.item-index l.item-items)))) in
    let all = items_tokens (selections_json l.place (set_of (selection_trees l.item-items))) in
    l.sheet ++ rest ≡ l.initial.sheet ++ all
