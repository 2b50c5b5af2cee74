-- The equations of the trees of a request, at values that code makes and takes apart.
use Rattle.std.proofs.Common.{◌≡◌, List, [], ◌∷◌, map, Option, Some, ap, refl, sym, ◌∙◌, option_map}
use Rattle.graphql_tokens.specs.declared.pos.Positioned.{Positioned}
use Rattle.graphql_trees.specs.calls.Operations.{NamedOperation, operations_list, with_name}
use Rattle.graphql_trees.specs.declared.executable.DocumentOperations.{DocumentOperations}
use Rattle.graphql_trees.specs.declared.executable.DocumentOperations.TheVariants.{Single, Multiple}
use Rattle.graphql_trees.specs.declared.executable.Field.{Field, out-Field, roll-Field, fold-roll-Field, fold_out-Field}
use Rattle.graphql_trees.specs.declared.executable.FragmentSpread.{FragmentSpread}
use Rattle.graphql_trees.specs.declared.executable.InlineFragment.{InlineFragment, out-InlineFragment, roll-InlineFragment, fold-roll-InlineFragment, fold_out-InlineFragment}
use Rattle.graphql_trees.specs.declared.executable.OperationDefinition.{OperationDefinition}
use Rattle.graphql_trees.specs.declared.executable.Selection.{Selection, fold-roll-Selection}
use Rattle.graphql_trees.specs.declared.executable.Selection.TheOpen.{Selection-F, Field-F, InlineFragment-F, SelectionSet-F}
use Rattle.graphql_trees.specs.declared.executable.Selection.TheVariants as selections
use Rattle.graphql_trees.specs.declared.executable.Selection.TheViews.{rolls-Field, rolls-FragmentSpread, rolls-InlineFragment}
use Rattle.graphql_trees.specs.declared.executable.SelectionSet.{SelectionSet, out-SelectionSet, roll-SelectionSet, fold-roll-SelectionSet, fold_out-SelectionSet}
use Rattle.graphql_trees.specs.trees.Request as request
use Rattle.graphql_syntax.specs.trees.Parts.{Name, placed}
use Rattle.graphql_syntax.specs.trees.PartViews.{arguments_tree, directives_tree}
use Rattle.graphql_trees.specs.trees.RequestViews.{selection_step, field_step, inline_fragment_step, selection_set_step, selection_tree, field_tree, inline_fragment_tree, selection_set_tree, selection_trees, type_condition_tree, fragment_spread_tree, entry_tree, operation_tree, operations_tree}

-- ---- a set: that of its items

pub set_tree_roll : (s : SelectionSet-F Selection Field InlineFragment SelectionSet) →
    selection_set_tree (roll-SelectionSet s) ≡ request.set_of (selection_trees s.items.items)
set_tree_roll = fold-roll-SelectionSet request.Selection request.Field request.InlineFragment request.SelectionSet selection_step field_step inline_fragment_step selection_set_step

pub set_tree_out : (s : SelectionSet) →
    selection_set_tree s ≡ request.set_of (selection_trees (out-SelectionSet s).items.items)
set_tree_out = fold_out-SelectionSet request.Selection request.Field request.InlineFragment request.SelectionSet selection_step field_step inline_fragment_step selection_set_step

-- ---- a selection: that of its case

pub tree_of_field : (f : Positioned Field) →
    selection_tree (selections.Field f) ≡ request.of_field (placed field_tree f)
tree_of_field f = ap selection_tree (sym (rolls-Field f)) ∙ fold-roll-Selection request.Selection request.Field request.InlineFragment request.SelectionSet selection_step field_step inline_fragment_step selection_set_step (Selection-F.Field f)

pub tree_of_inline_fragment : (i : Positioned InlineFragment) →
    selection_tree (selections.InlineFragment i) ≡ request.of_inline_fragment (placed inline_fragment_tree i)
tree_of_inline_fragment i = ap selection_tree (sym (rolls-InlineFragment i)) ∙ fold-roll-Selection request.Selection request.Field request.InlineFragment request.SelectionSet selection_step field_step inline_fragment_step selection_set_step (Selection-F.InlineFragment i)

pub tree_of_spread : (s : Positioned FragmentSpread) →
    selection_tree (selections.FragmentSpread s) ≡ request.fragment_spread (placed fragment_spread_tree s)
tree_of_spread s = ap selection_tree (sym (rolls-FragmentSpread s)) ∙ fold-roll-Selection request.Selection request.Field request.InlineFragment request.SelectionSet selection_step field_step inline_fragment_step selection_set_step (Selection-F.FragmentSpread s)

-- ---- a field, an inline fragment: that of its parts

pub field_tree_roll : (f : Field-F Selection Field InlineFragment SelectionSet) →
    field_tree (roll-Field f) ≡ record {
      alias = f.alias;
      name = f.name;
      arguments = arguments_tree f.arguments.items;
      directives = directives_tree f.directives.items;
      selection_set = placed selection_set_tree f.selection_set;
    }
field_tree_roll = fold-roll-Field request.Selection request.Field request.InlineFragment request.SelectionSet selection_step field_step inline_fragment_step selection_set_step

pub inline_fragment_tree_roll : (i : InlineFragment-F Selection Field InlineFragment SelectionSet) →
    inline_fragment_tree (roll-InlineFragment i) ≡ record {
      type_condition = option_map (placed type_condition_tree) i.type_condition;
      directives = directives_tree i.directives.items;
      selection_set = placed selection_set_tree i.selection_set;
    }
inline_fragment_tree_roll = fold-roll-InlineFragment request.Selection request.Field request.InlineFragment request.SelectionSet selection_step field_step inline_fragment_step selection_set_step

-- ---- a value of a type, by its parts

pub field_tree_out : (f : Field) →
    field_tree f ≡ record {
      alias = (out-Field f).alias;
      name = (out-Field f).name;
      arguments = arguments_tree (out-Field f).arguments.items;
      directives = directives_tree (out-Field f).directives.items;
      selection_set = placed selection_set_tree (out-Field f).selection_set;
    }
field_tree_out = fold_out-Field request.Selection request.Field request.InlineFragment request.SelectionSet selection_step field_step inline_fragment_step selection_set_step

pub inline_fragment_tree_out : (i : InlineFragment) →
    inline_fragment_tree i ≡ record {
      type_condition = option_map (placed type_condition_tree) (out-InlineFragment i).type_condition;
      directives = directives_tree (out-InlineFragment i).directives.items;
      selection_set = placed selection_set_tree (out-InlineFragment i).selection_set;
    }
inline_fragment_tree_out = fold_out-InlineFragment request.Selection request.Field request.InlineFragment request.SelectionSet selection_step field_step inline_fragment_step selection_set_step

-- ---- operations as they are walked: those of the tree

abbrev pub operation_trees : List NamedOperation → List (Option Name × Positioned request.OperationDefinition)
operation_trees os = map (λ (o : NamedOperation). (o.0, placed operation_tree o.1)) os

entries_walked : (es : List (Name × Positioned OperationDefinition)) →
    operation_trees (map with_name es) ≡ map (λ operation. (Some operation.0, operation.1)) (map (entry_tree operation_tree) es)
entries_walked [] = refl
entries_walked (e ∷ es) = ap (λ os. (Some e.0, placed operation_tree e.1) ∷ os) (entries_walked es)

pub operations_walked : (os : DocumentOperations) →
    operation_trees (operations_list os) ≡ request.operations_of (operations_tree os)
operations_walked (Single o) = refl
operations_walked (Multiple m) = entries_walked m.entries
