use Rattle.std.proofs.Common.{◌≡◌, ◌++◌, List, drop, map}
use Rattle.graphql_parser.specs.trees.RequestViews.{entry_tree, fragment_tree}
use Rattle.graphql_json.specs.nodes.Requests.{Fragment, after_fragments}
use Rattle.json.specs.Json.{Json, Items}
use Rattle.json.specs.Tree.{items_tokens}
use Rattle.graphql_json.proofs.request.write_fragments_before.Given as goal

abbrev pub invariant-loop-index : goal.invariant-loop-index
invariant-loop-index l = (definition : Json) → (others : List Fragment → Items)
    → l.sheet ++ items_tokens (after_fragments l.place l.pos definition others (map (entry_tree fragment_tree) (drop l.index l.fragments.entries)))
    ≡ l.initial.sheet ++ items_tokens (after_fragments l.place l.pos definition others (map (entry_tree fragment_tree) (drop l.from l.fragments.entries)))
