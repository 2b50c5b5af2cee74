-- Trees of requests without their places: each place is 0:0.
-- Source: this project's choice.
use Rattle.std.specs.Prelude.{List, map, option_map}
use Rattle.graphql_trees.specs.trees.Request.{VariableDefinition, TypeCondition, FragmentSpread, Selection, SelectionSet, field, fragment_spread, inline_fragment, no_selections, selection_and, OperationDefinition, FragmentDefinition}
use Rattle.graphql_reading.specs.grammar.Places.{nowhere}
use Rattle.graphql_grammar.specs.grammar.Placeless.{unplaced, bare_node, placeless_argument, placeless_directives}
use Rattle.graphql_requests.specs.grammar.Request.{Definition, operation, fragment}

abbrev pub placeless_variable : VariableDefinition → VariableDefinition
placeless_variable v = record {
  name = bare_node v.name;
  var_type = bare_node v.var_type;
  directives = placeless_directives v.directives;
  default_value = option_map bare_node v.default_value;
}

abbrev pub placeless_condition : TypeCondition → TypeCondition
placeless_condition c = record { on = bare_node c.on }

abbrev pub placeless_spread : FragmentSpread → FragmentSpread
placeless_spread s = record { fragment_name = bare_node s.fragment_name; directives = placeless_directives s.directives }

abbrev mutual
  pub placeless_selection : Selection → Selection
  placeless_selection (field pos alias name arguments directives set_pos set) =
      field nowhere (option_map bare_node alias) (bare_node name) (map placeless_argument arguments) (placeless_directives directives) nowhere (placeless_set set)
  placeless_selection (fragment_spread s) = fragment_spread (unplaced placeless_spread s)
  placeless_selection (inline_fragment pos condition directives set_pos set) =
      inline_fragment nowhere (option_map (unplaced placeless_condition) condition) (placeless_directives directives) nowhere (placeless_set set)

  pub placeless_set : SelectionSet → SelectionSet
  placeless_set no_selections = no_selections
  placeless_set (selection_and pos x xs) = selection_and nowhere (placeless_selection x) (placeless_set xs)

abbrev pub placeless_operation : OperationDefinition → OperationDefinition
placeless_operation o = record {
  ty = o.ty;
  variable_definitions = map (unplaced placeless_variable) o.variable_definitions;
  directives = placeless_directives o.directives;
  selection_set = unplaced placeless_set o.selection_set;
}

abbrev pub placeless_fragment : FragmentDefinition → FragmentDefinition
placeless_fragment f = record {
  type_condition = unplaced placeless_condition f.type_condition;
  directives = placeless_directives f.directives;
  selection_set = unplaced placeless_set f.selection_set;
}

abbrev pub placeless_definition : Definition → Definition
placeless_definition (operation name o) = operation name (unplaced placeless_operation o)
placeless_definition (fragment name f) = fragment name (unplaced placeless_fragment f)

abbrev pub placeless_definitions : List Definition → List Definition
placeless_definitions ds = map placeless_definition ds
