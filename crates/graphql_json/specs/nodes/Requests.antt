-- The JSON of requests.
-- Source: the syntax trees of GraphQL.js, version 16. The document and the names of operations and fragments have no place: our trees keep none.
use Rattle.std.specs.Prelude.{List, [], ◌∷◌, Option, Some, None, if◌then◌else◌, codes}
use Rattle.graphql_parser.specs.calls.Words.{operation_word}
use Rattle.graphql_parser.specs.trees.Parts.{Name}
use Rattle.graphql_parser.specs.trees.Request.{Document, operations_of, OperationDefinition, FragmentDefinition, VariableDefinition, TypeCondition, FragmentSpread, Selection, field, fragment_spread, inline_fragment, SelectionSet, no_selections, selection_and}
use Rattle.graphql_parser.specs.types.Pos.{Pos}
use Rattle.graphql_parser.specs.types.Positioned.{Positioned}
use Rattle.graphql_json.specs.declared.place.Place.{Place}
use Rattle.graphql_json.specs.declared.place.Places.{Places}
use Rattle.graphql_json.specs.nodes.Nodes.{at, nowhere, no_place, node, document_node, optional, items_of, placed_json, placed_list, stands_before}
use Rattle.graphql_json.specs.nodes.Values.{name_json, arguments_json, directives_json, named_type_json, typed_members}
use Rattle.json.specs.Json.{Json, string, array, Items, no_items, item, no_members, member}

-- ---- selections

-- the name that a fragment applies to, as a type
abbrev pub condition_json : Place → TypeCondition → Json
condition_json place condition = placed_json named_type_json place condition.on

abbrev pub spread_json : Place → FragmentSpread → Json
spread_json place spread =
    node (codes "FragmentSpread") place (member (codes "name") (placed_json name_json place spread.fragment_name) (member (codes "directives") (directives_json place spread.directives) no_members))

-- a set of these selections
abbrev pub set_node : Place → Items → Json
set_node place selections = node (codes "SelectionSet") place (member (codes "selections") (array selections) no_members)

-- the selections, where there are some
abbrev pub some_of : Items → Option Items
some_of no_items = None
some_of (item first others) = Some (item first others)

-- A field that selects nothing has no member for that.
abbrev mutual
  pub selection_json : Place → Selection → Json
  selection_json place (field pos alias name arguments directives set_pos set) =
      node (codes "Field") (at place pos)
      (optional (codes "alias") (placed_json name_json place) alias
      (member (codes "name") (placed_json name_json place name)
      (member (codes "arguments") (arguments_json place arguments)
      (member (codes "directives") (directives_json place directives)
      (optional (codes "selectionSet") (set_node (at place set_pos)) (some_of (selections_json place set)) no_members)))))
  selection_json place (fragment_spread spread) = placed_json spread_json place spread
  selection_json place (inline_fragment pos condition directives set_pos set) =
      node (codes "InlineFragment") (at place pos)
      (optional (codes "typeCondition") (placed_json condition_json place) condition
      (member (codes "directives") (directives_json place directives)
      (member (codes "selectionSet") (set_node (at place set_pos) (selections_json place set)) no_members)))

  pub selections_json : Place → SelectionSet → Items
  selections_json place no_selections = no_items
  selections_json place (selection_and pos selection set) = item (selection_json place selection) (selections_json place set)

abbrev pub set_json : Place → Positioned SelectionSet → Json
set_json place set = set_node (at place set.pos) (selections_json place set.node)

-- ---- definitions

-- the variable stands at its `$`, as its definition does
abbrev pub variable_json : Place → VariableDefinition → Json
variable_json place variable =
    node (codes "VariableDefinition") place
    (member (codes "variable") (node (codes "Variable") place (member (codes "name") (placed_json name_json place variable.name) no_members))
    (typed_members place variable.var_type variable.default_value (directives_json place variable.directives)))

abbrev pub Operation : Type 0
Operation = Option Name × Positioned OperationDefinition

abbrev pub operation_json : Place → Operation → Json
operation_json place operation =
    let definition = operation.1.node in
    node (codes "OperationDefinition") (at place operation.1.pos)
    (member (codes "operation") (string (operation_word definition.ty))
    (optional (codes "name") (name_json (nowhere place)) operation.0
    (member (codes "variableDefinitions") (placed_list variable_json place definition.variable_definitions)
    (member (codes "directives") (directives_json place definition.directives)
    (member (codes "selectionSet") (set_json place definition.selection_set) no_members)))))

abbrev pub Fragment : Type 0
Fragment = Name × Positioned FragmentDefinition

abbrev pub fragment_json : Place → Fragment → Json
fragment_json place fragment =
    let definition = fragment.1.node in
    node (codes "FragmentDefinition") (at place fragment.1.pos)
    (member (codes "name") (name_json (nowhere place) fragment.0)
    (member (codes "typeCondition") (placed_json condition_json place definition.type_condition)
    (member (codes "directives") (directives_json place definition.directives)
    (member (codes "selectionSet") (set_json place definition.selection_set) no_members))))

-- ---- documents

-- A definition at this place, after the fragments that are left and whose places are smaller. `others` gives the JSON of
-- the definitions after it.
abbrev pub after_fragments : Place → Pos → Json → (List Fragment → Items) → List Fragment → Items
after_fragments place pos definition others [] = item definition (others [])
after_fragments place pos definition others (fragment ∷ fragments) =
    if stands_before fragment.1.pos pos then item (fragment_json place fragment) (after_fragments place pos definition others fragments)
    else item definition (others (fragment ∷ fragments))

-- The operations in their order and the fragments in theirs: the next operation before the next fragment, unless the
-- fragment's place is smaller. A document has no order between the two, and their places give that of the text, unless a
-- carriage return without a line feed stands between them.
abbrev pub definitions_json : Place → List Operation → List Fragment → Items
definitions_json place [] fragments = items_of (fragment_json place) fragments
definitions_json place (operation ∷ operations) fragments = after_fragments place operation.1.pos (operation_json place operation) (definitions_json place operations) fragments

abbrev pub document_json : Place → Document → Json
document_json place document = document_node place (definitions_json place (operations_of document.operations) document.fragments)

-- a request, with or without the places of its nodes
abbrev pub request_value : Places → Document → Json
request_value places document = document_json (no_place places) document
