use Rattle.std.proofs.Common.{List, sym, ap, ◌∙◌}
use Rattle.std.proofs.lemmas.List.{take-map, drop-map}
use Rattle.graphql_tokens.specs.declared.pos.Positioned.{Positioned}
use Rattle.graphql_syntax.specs.trees.Parts.{placed}
use Rattle.graphql_trees.specs.trees.Request as request
use Rattle.graphql_trees.specs.trees.RequestViews.{selection_tree, selection_set_tree, selection_trees}
use Rattle.graphql_trees.proofs.Requests.{set_tree_roll}
use Rattle.graphql_requests.proofs.selections.OpenSet.close.Goals as goal

pub returns-then-self-gt0-clause-set : goal.returns-then-self-gt0-clause-set
returns-then-self-gt0-clause-set c =
    ap (placed selection_set_tree) c.new.ensures
    ∙ ap (λ (t : request.SelectionSet). record { pos = c.args.self.now.place; node = t }) (set_tree_roll (record { items = c.in_ok-items.items })
    ∙ ap (λ (xs : List (Positioned request.Selection)). request.set_of xs) (ap selection_trees c.in_ok-items.ensures.own ∙ sym (drop-map (placed selection_tree) c.args.self.now.first c.args.items.now.items)))

pub returns-then-self-gt0-clause-rest : goal.returns-then-self-gt0-clause-rest
returns-then-self-gt0-clause-rest c = ap selection_trees c.in_ok-items.ensures.rest ∙ sym (take-map (placed selection_tree) c.args.self.now.first c.args.items.now.items)
