-- A derived clone, each of whose parts is a clone, has the tree of the whole.
use Rattle.std.proofs.Common.{◌≡◌, List, map}
use Rattle.std.specs.List.{AllZip}
use Rattle.graphql_tokens.specs.declared.pos.Positioned.{Positioned}
use Rattle.graphql_syntax.specs.trees.Parts.{Name}
use Rattle.graphql_syntax.specs.trees.PartViews.{directive_tree}
use Rattle.graphql_syntax.specs.trees.TypeTree.{type_tree}
use Rattle.graphql_syntax.specs.trees.ValueViews.{const_tree}
use Rattle.graphql_syntax.proofs.Clones.{same_placed, same_node, same_list, same_option, same_trees}
use Rattle.graphql_trees.specs.declared.executable.FragmentDefinition.{FragmentDefinition}
use Rattle.graphql_trees.specs.declared.executable.FragmentSpread.{FragmentSpread}
use Rattle.graphql_trees.specs.declared.executable.OperationDefinition.{OperationDefinition}
use Rattle.graphql_trees.specs.declared.executable.VariableDefinition.{VariableDefinition}
use Rattle.graphql_trees.specs.contracts.executable.FragmentDefinitionClone.TheImpl as fragment
use Rattle.graphql_trees.specs.contracts.executable.FragmentSpreadClone.TheImpl as spread
use Rattle.graphql_trees.specs.contracts.executable.OperationDefinitionClone.TheImpl as operation
use Rattle.graphql_trees.specs.contracts.executable.VariableDefinitionClone.TheImpl as variable
use Rattle.graphql_trees.specs.trees.RequestViews.{entry_tree, fragment_spread_tree, fragment_tree, operation_tree, selection_set_tree, type_condition_tree, variable_definition_tree}
use Rattle.graphql_trees.proofs.Entries.{same_entries}

pub same_variable : (x y : VariableDefinition) → variable.is_clone-value.it x y → variable_definition_tree y ≡ variable_definition_tree x
same_variable x y clone = λ i. record {
  name = same_node x.name y.name clone.0 i;
  var_type = same_placed type_tree x.var_type y.var_type clone.1.0 i;
  directives = same_list directive_tree x.directives.items y.directives.items clone.1.1.0.0 i;
  default_value = same_option const_tree x.default_value y.default_value clone.1.1.1 i;
}

pub same_spread : (x y : FragmentSpread) → spread.is_clone-value.it x y → fragment_spread_tree y ≡ fragment_spread_tree x
same_spread x y clone = λ i. record {
  fragment_name = same_node x.fragment_name y.fragment_name clone.0 i;
  directives = same_list directive_tree x.directives.items y.directives.items clone.1.0 i;
}

pub same_operation : (x y : OperationDefinition) → operation.is_clone-value.it x y → operation_tree y ≡ operation_tree x
same_operation x y clone = λ i. record {
  ty = clone.0 i;
  variable_definitions = same_trees variable_definition_tree variable.is_clone-value.it same_variable x.variable_definitions.items y.variable_definitions.items clone.1.0.0 i;
  directives = same_list directive_tree x.directives.items y.directives.items clone.1.1.0.0 i;
  selection_set = same_placed selection_set_tree x.selection_set y.selection_set clone.1.1.1 i;
}

pub same_fragment : (x y : FragmentDefinition) → fragment.is_clone-value.it x y → fragment_tree y ≡ fragment_tree x
same_fragment x y clone = λ i. record {
  type_condition = same_placed type_condition_tree x.type_condition y.type_condition clone.0 i;
  directives = same_list directive_tree x.directives.items y.directives.items clone.1.0.0 i;
  selection_set = same_placed selection_set_tree x.selection_set y.selection_set clone.1.1 i;
}

-- ---- definitions under their names

pub same_operations : (es fs : List (Name × Positioned OperationDefinition)) → AllZip (λ x y. (y.0 ≡ x.0) × ((y.1.pos ≡ x.1.pos) × operation.is_clone-value.it x.1.node y.1.node)) es fs →
    map (entry_tree operation_tree) fs ≡ map (entry_tree operation_tree) es
same_operations = same_entries operation_tree operation.is_clone-value.it same_operation

pub same_fragments : (es fs : List (Name × Positioned FragmentDefinition)) → AllZip (λ x y. (y.0 ≡ x.0) × ((y.1.pos ≡ x.1.pos) × fragment.is_clone-value.it x.1.node y.1.node)) es fs →
    map (entry_tree fragment_tree) fs ≡ map (entry_tree fragment_tree) es
same_fragments = same_entries fragment_tree fragment.is_clone-value.it same_fragment
