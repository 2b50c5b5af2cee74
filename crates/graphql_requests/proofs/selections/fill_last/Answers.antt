use Rattle.std.proofs.Common.{◌≡◌, ◌<◌, ◌-◌, suc, length, refl, sym, ap, ◌∙◌, arith}
use Rattle.std.specs.Prelude.{Vec}
use Rattle.std.specs.Vec.{vec_len}
use Rattle.std.specs.declared.alloc.Global.{Global}
use Rattle.graphql_tokens.specs.declared.pos.Positioned.{Positioned}
use Rattle.graphql_syntax.specs.trees.Parts.{placed}
use Rattle.graphql_trees.specs.declared.executable.Selection.{Selection}
use Rattle.graphql_trees.specs.declared.executable.SelectionSet.{SelectionSet}
use Rattle.graphql_trees.specs.trees.Request as request
use Rattle.graphql_trees.specs.trees.RequestViews.{selection_tree, selection_set_tree}
use Rattle.graphql_requests.specs.reading.SelectionSteps.{with_set}
use Rattle.graphql_requests.proofs.SelectionTrees.{last-with, field-with, inline-with, spread-with}
use Rattle.graphql_requests.proofs.selections.fill_last.Goals as goal

-- a list that has a last item
size : (items : Vec (Positioned Selection) Global) → 0 < vec_len items → suc (vec_len items - 1) ≡ length items.items
size items some = omega (arith, some, items.ok.0)

-- what the last one stands for with the set, by what it is
abbrev with : Positioned SelectionSet → Selection → request.Selection
with set selection = with_set (placed selection_set_tree set) (selection_tree selection)

pub returns-in-Field-clause-trees : goal.returns-in-Field-clause-trees
returns-in-Field-clause-trees c =
    last-with c.args.items.now.items _ c.in-Some.last.now _ _ (size c.args.items.now (c.in-Some.ensures.variant.0 refl)) c.in-Some.ensures.value
    (field-with c.in-Field.field c.args.set ∙ ap (with c.args.set) (sym c.in-Field.is))

pub returns-in-InlineFragment-clause-trees : goal.returns-in-InlineFragment-clause-trees
returns-in-InlineFragment-clause-trees c =
    last-with c.args.items.now.items _ c.in-Some.last.now _ _ (size c.args.items.now (c.in-Some.ensures.variant.0 refl)) c.in-Some.ensures.value
    (inline-with c.in-InlineFragment.fragment c.args.set ∙ ap (with c.args.set) (sym c.in-InlineFragment.is))

pub returns-in-FragmentSpread-clause-trees : goal.returns-in-FragmentSpread-clause-trees
returns-in-FragmentSpread-clause-trees c =
    last-with c.args.items.now.items _ c.in-Some.last.now _ _ (size c.args.items.now (c.in-Some.ensures.variant.0 refl)) c.in-Some.ensures.value
    (ap selection_tree c.in-FragmentSpread.is ∙ spread-with c.in-FragmentSpread.field-0 (placed selection_set_tree c.args.set) ∙ ap (with c.args.set) (sym c.in-FragmentSpread.is))
