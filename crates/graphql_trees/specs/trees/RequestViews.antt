-- The request trees that the types of a request stand for.
-- Source: this project's choice; the trees are those of `Request`.
use Rattle.std.specs.Prelude.{List, map, option_map}
use Rattle.graphql_tokens.specs.declared.pos.Positioned.{Positioned}
use Rattle.graphql_trees.specs.declared.executable.DocumentOperations.{DocumentOperations}
use Rattle.graphql_trees.specs.declared.executable.DocumentOperations.TheVariants.{Single, Multiple}
use Rattle.graphql_trees.specs.declared.executable.ExecutableDocument.{ExecutableDocument}
use Rattle.graphql_trees.specs.declared.executable.Field.{Field, fold-Field}
use Rattle.graphql_trees.specs.declared.executable.FragmentDefinition.{FragmentDefinition}
use Rattle.graphql_trees.specs.declared.executable.FragmentSpread.{FragmentSpread}
use Rattle.graphql_trees.specs.declared.executable.InlineFragment.{InlineFragment, fold-InlineFragment}
use Rattle.graphql_trees.specs.declared.executable.OperationDefinition.{OperationDefinition}
use Rattle.graphql_trees.specs.declared.executable.Selection.{Selection, fold-Selection}
use Rattle.graphql_trees.specs.declared.executable.Selection.TheOpen.{Selection-F, Field-F, InlineFragment-F, SelectionSet-F}
use Rattle.graphql_trees.specs.declared.executable.SelectionSet.{SelectionSet, fold-SelectionSet}
use Rattle.graphql_trees.specs.declared.executable.TypeCondition.{TypeCondition}
use Rattle.graphql_trees.specs.declared.executable.VariableDefinition.{VariableDefinition}
use Rattle.graphql_trees.specs.trees.Request as request
use Rattle.graphql_syntax.specs.trees.Parts.{Name, placed}
use Rattle.graphql_syntax.specs.trees.PartViews.{arguments_tree, directives_tree}
use Rattle.graphql_syntax.specs.trees.TypeTree.{type_tree}
use Rattle.graphql_syntax.specs.trees.ValueViews.{const_tree}

-- ---- parts without selections

abbrev pub variable_definition_tree : VariableDefinition → request.VariableDefinition
variable_definition_tree v = record {
  name = v.name;
  var_type = placed type_tree v.var_type;
  directives = directives_tree v.directives.items;
  default_value = option_map (placed const_tree) v.default_value;
}

abbrev pub type_condition_tree : TypeCondition → request.TypeCondition
type_condition_tree c = record { on = c.on }

abbrev pub fragment_spread_tree : FragmentSpread → request.FragmentSpread
fragment_spread_tree s = record { fragment_name = s.fragment_name; directives = directives_tree s.directives.items }

-- ---- one level of a selection, where the levels below are trees

abbrev pub selection_step : Selection-F request.Selection request.Field request.InlineFragment request.SelectionSet → request.Selection
selection_step (Selection-F.Field f) = request.of_field f
selection_step (Selection-F.FragmentSpread s) = request.fragment_spread (placed fragment_spread_tree s)
selection_step (Selection-F.InlineFragment i) = request.of_inline_fragment i

abbrev pub field_step : Field-F request.Selection request.Field request.InlineFragment request.SelectionSet → request.Field
field_step f = record {
  alias = f.alias;
  name = f.name;
  arguments = arguments_tree f.arguments.items;
  directives = directives_tree f.directives.items;
  selection_set = f.selection_set;
}

abbrev pub inline_fragment_step : InlineFragment-F request.Selection request.Field request.InlineFragment request.SelectionSet → request.InlineFragment
inline_fragment_step i = record {
  type_condition = option_map (placed type_condition_tree) i.type_condition;
  directives = directives_tree i.directives.items;
  selection_set = i.selection_set;
}

abbrev pub selection_set_step : SelectionSet-F request.Selection request.Field request.InlineFragment request.SelectionSet → request.SelectionSet
selection_set_step s = request.set_of s.items.items

-- ---- selections

abbrev pub selection_tree : Selection → request.Selection
selection_tree = fold-Selection request.Selection request.Field request.InlineFragment request.SelectionSet selection_step field_step inline_fragment_step selection_set_step

abbrev pub field_tree : Field → request.Field
field_tree = fold-Field request.Selection request.Field request.InlineFragment request.SelectionSet selection_step field_step inline_fragment_step selection_set_step

abbrev pub inline_fragment_tree : InlineFragment → request.InlineFragment
inline_fragment_tree = fold-InlineFragment request.Selection request.Field request.InlineFragment request.SelectionSet selection_step field_step inline_fragment_step selection_set_step

abbrev pub selection_set_tree : SelectionSet → request.SelectionSet
selection_set_tree = fold-SelectionSet request.Selection request.Field request.InlineFragment request.SelectionSet selection_step field_step inline_fragment_step selection_set_step

-- the selections of a set, as the trees of a list
abbrev pub selection_trees : List (Positioned Selection) → List (Positioned request.Selection)
selection_trees xs = map (placed selection_tree) xs

-- ---- definitions

abbrev pub operation_tree : OperationDefinition → request.OperationDefinition
operation_tree o = record {
  ty = o.ty;
  variable_definitions = map (placed variable_definition_tree) o.variable_definitions.items;
  directives = directives_tree o.directives.items;
  selection_set = placed selection_set_tree o.selection_set;
}

abbrev pub fragment_tree : FragmentDefinition → request.FragmentDefinition
fragment_tree f = record {
  type_condition = placed type_condition_tree f.type_condition;
  directives = directives_tree f.directives.items;
  selection_set = placed selection_set_tree f.selection_set;
}

-- an entry of a map of definitions, under its name
abbrev pub entry_tree : {D T : Type 0} → (D → T) → Name × Positioned D → Name × Positioned T
entry_tree tree e = (e.0, placed tree e.1)

abbrev pub operations_tree : DocumentOperations → request.Operations
operations_tree (Single o) = request.single (placed operation_tree o)
operations_tree (Multiple m) = request.multiple (map (entry_tree operation_tree) m.entries)

abbrev pub document_tree : ExecutableDocument → request.Document
document_tree d = record {
  operations = operations_tree d.operations;
  fragments = map (entry_tree fragment_tree) d.fragments.entries;
}
