-- Requests without the outer places of their selections, which the bytes leave out: each selection is at the place of its
-- node, as in a parsed tree.
-- Source: this project's choice.
use Rattle.std.specs.Prelude.{map}
use Rattle.graphql_parser.specs.types.Pos.{Pos}
use Rattle.graphql_parser.specs.trees.Parts.{placed}
use Rattle.graphql_parser.specs.trees.Request.{Document, Operations, single, multiple, OperationDefinition, FragmentDefinition, Selection, field, fragment_spread, inline_fragment, SelectionSet, no_selections, selection_and}
use Rattle.graphql_parser.specs.types.Positioned.{Positioned}

-- the place of the node of a selection
abbrev pub node_place : Selection → Pos
node_place (field pos alias name arguments directives set_pos set) = pos
node_place (fragment_spread spread) = spread.pos
node_place (inline_fragment pos condition directives set_pos set) = pos

abbrev mutual
  pub selection_without_outer : Selection → Selection
  selection_without_outer (field pos alias name arguments directives set_pos set) = field pos alias name arguments directives set_pos (set_without_outer set)
  selection_without_outer (fragment_spread spread) = fragment_spread spread
  selection_without_outer (inline_fragment pos condition directives set_pos set) = inline_fragment pos condition directives set_pos (set_without_outer set)

  pub set_without_outer : SelectionSet → SelectionSet
  set_without_outer no_selections = no_selections
  set_without_outer (selection_and pos selection set) = selection_and (node_place selection) (selection_without_outer selection) (set_without_outer set)

abbrev pub operation_without_outer : OperationDefinition → OperationDefinition
operation_without_outer operation = record operation { selection_set = placed set_without_outer operation.selection_set }

abbrev pub fragment_without_outer : FragmentDefinition → FragmentDefinition
fragment_without_outer fragment = record fragment { selection_set = placed set_without_outer fragment.selection_set }

-- a definition under its name
abbrev pub named_without_outer : {N D : Type 0} → (D → D) → N × Positioned D → N × Positioned D
named_without_outer without_outer definition = (definition.0, placed without_outer definition.1)

abbrev pub operations_without_outer : Operations → Operations
operations_without_outer (single operation) = single (placed operation_without_outer operation)
operations_without_outer (multiple operations) = multiple (map (named_without_outer operation_without_outer) operations)

abbrev pub without_outer_places : Document → Document
without_outer_places document = record {
  operations = operations_without_outer document.operations;
  fragments = map (named_without_outer fragment_without_outer) document.fragments;
}
