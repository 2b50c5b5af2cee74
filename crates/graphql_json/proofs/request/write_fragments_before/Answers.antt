use Rattle.std.proofs.Common.{◌++◌, ◌+◌, List, drop, map, ap, ◌∙◌, sym}
use Rattle.graphql_parser.specs.trees.RequestViews.{entry_tree, fragment_tree}
use Rattle.graphql_json.proofs.Fragments.{after_earlier, before_later}
use Rattle.graphql_json.proofs.Steps.{item_written, at_index}
use Rattle.graphql_json.specs.nodes.Requests.{after_fragments}
use Rattle.json.specs.Json.{item}
use Rattle.json.specs.Tree.{items_tokens}
use Rattle.graphql_json.proofs.request.write_fragments_before.Goals as goal

pub loop-index-preserved : goal.loop-index-preserved
loop-index-preserved c definition others =
    let entries = c.args.fragments.now.entries in
    let json = λ (fragments : List _). after_fragments c.args.place c.args.pos definition others (map (entry_tree fragment_tree) fragments) in
    let here = at_index entries c.loop-index.index _ c.in-Some.ensures.entry in
    let earlier = after_earlier c.args.place c.args.pos definition others _ (map (entry_tree fragment_tree) (drop (c.loop-index.index + 1) entries)) (sym c.stands_before.ensures ∙ c.if-not-stands_before.false) in
    item_written _ (json (drop (c.loop-index.index + 1) entries)) c.in_ok-write_fragment.ensures
    (ap (λ items. c.loop-index.sheet ++ items_tokens items) (sym (ap json here ∙ earlier)) ∙ c.loop-index.invariant definition others)

pub returns-then-not-stands_before : goal.returns-then-not-stands_before
returns-then-not-stands_before c definition others =
    let entries = c.args.fragments.now.entries in
    let json = λ (fragments : List _). after_fragments c.args.place c.args.pos definition others (map (entry_tree fragment_tree) fragments) in
    let here = at_index entries c.loop-index.index _ c.in-Some.ensures.entry in
    let later = before_later c.args.place c.args.pos definition others _ (map (entry_tree fragment_tree) (drop (c.loop-index.index + 1) entries)) (sym c.stands_before.ensures ∙ c.if-not-stands_before.true) in
    ap (λ fragments. c.loop-index.sheet ++ items_tokens fragments) (sym (ap json here ∙ later ∙ ap (λ fragments. item definition (others (map (entry_tree fragment_tree) fragments))) (sym here))) ∙ c.loop-index.invariant definition others
