use Rattle.std.proofs.Common.{◌≡◌, ◌++◌, drop, map}
use Rattle.graphql_parser.specs.trees.RequestViews.{entry_tree, fragment_tree}
use Rattle.graphql_json.specs.nodes.Nodes.{items_of}
use Rattle.graphql_json.specs.nodes.Requests.{fragment_json}
use Rattle.json.specs.Tree.{items_tokens}
use Rattle.graphql_json.proofs.request.write_fragments.Given as goal

abbrev pub invariant-loop-index : goal.invariant-loop-index
invariant-loop-index l =
    let rest = items_tokens (items_of (fragment_json l.place) (map (entry_tree fragment_tree) (drop l.index l.fragments.entries))) in
    let all = items_tokens (items_of (fragment_json l.place) (map (entry_tree fragment_tree) (drop l.from l.fragments.entries))) in
    l.sheet ++ rest ≡ l.initial.sheet ++ all
