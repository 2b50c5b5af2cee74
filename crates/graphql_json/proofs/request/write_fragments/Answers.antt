use Rattle.std.proofs.Common.{◌++◌, ◌+◌, List, drop, map, ap, ◌∙◌, sym}
use Rattle.graphql_parser.specs.trees.RequestViews.{entry_tree, fragment_tree}
use Rattle.graphql_json.proofs.Steps.{item_written, at_index}
use Rattle.graphql_json.specs.nodes.Nodes.{items_of}
use Rattle.graphql_json.specs.nodes.Requests.{fragment_json}
use Rattle.json.specs.Tree.{items_tokens}
use Rattle.graphql_json.proofs.request.write_fragments.Goals as goal

pub loop-index-preserved : goal.loop-index-preserved
loop-index-preserved c =
    let entries = c.args.fragments.now.entries in
    let json = λ (fragments : List _). items_of (fragment_json c.args.place) (map (entry_tree fragment_tree) fragments) in
    let here = at_index entries c.loop-index.index _ c.in-Some.ensures.entry in
    item_written _ (json (drop (c.loop-index.index + 1) entries)) c.in_ok-write_fragment.ensures
    (ap (λ fragments. c.loop-index.sheet ++ items_tokens (json fragments)) (sym here) ∙ c.loop-index.invariant)
