-- The bytes of requests.
-- Source: this project's choice.
use Rattle.std.specs.Prelude.{ℕ, suc, [], ◌++◌}
use Rattle.graphql_parser.specs.trees.Request.{Document, operations_of, OperationDefinition, FragmentDefinition, VariableDefinition, TypeCondition, FragmentSpread, Selection, field, fragment_spread, inline_fragment, SelectionSet, no_selections, selection_and}
use Rattle.graphql_parser.specs.types.OperationType.{OperationType}
use Rattle.graphql_parser.specs.types.OperationType.TheVariants.{Query, Mutation, Subscription}
use Rattle.graphql_parser.specs.types.Positioned.{Positioned}
use Rattle.graphql_packed.specs.packed.Bytes.{Bytes, number_bytes, choice, text_bytes, place_bytes, node_bytes, word_bytes, optional_bytes, list_bytes}
use Rattle.graphql_packed.specs.packed.Values.{value_bytes, arguments_bytes, directives_bytes, type_bytes}

-- ---- selections

-- the name of the type that a fragment applies to
abbrev pub condition_bytes : TypeCondition → Bytes
condition_bytes condition = word_bytes condition.on

abbrev pub spread_bytes : FragmentSpread → Bytes
spread_bytes spread = word_bytes spread.fragment_name ++ directives_bytes spread.directives

abbrev pub selections_count : SelectionSet → ℕ
selections_count no_selections = 0
selections_count (selection_and pos selection set) = suc (selections_count set)

-- a selection: which kind it is of, its place and its parts; and selections, one after another
abbrev mutual
  pub selection_bytes : Selection → Bytes
  selection_bytes (field pos alias name arguments directives set_pos set) =
      choice 0 ++ place_bytes pos ++ optional_bytes word_bytes alias ++ word_bytes name ++ arguments_bytes arguments ++ directives_bytes directives
      ++ (place_bytes set_pos ++ (number_bytes (selections_count set) ++ selections_bytes set))
  selection_bytes (fragment_spread spread) = choice 1 ++ node_bytes spread_bytes spread
  selection_bytes (inline_fragment pos condition directives set_pos set) =
      choice 2 ++ place_bytes pos ++ optional_bytes (node_bytes condition_bytes) condition ++ directives_bytes directives
      ++ (place_bytes set_pos ++ (number_bytes (selections_count set) ++ selections_bytes set))

  pub selections_bytes : SelectionSet → Bytes
  selections_bytes no_selections = []
  selections_bytes (selection_and pos selection set) = selection_bytes selection ++ selections_bytes set

-- a selection set: how many selections it has, and these
abbrev pub set_bytes : SelectionSet → Bytes
set_bytes set = number_bytes (selections_count set) ++ selections_bytes set

-- ---- definitions

abbrev pub operation_number : OperationType → ℕ
operation_number Query = 0
operation_number Mutation = 1
operation_number Subscription = 2

abbrev pub variable_bytes : VariableDefinition → Bytes
variable_bytes variable =
    word_bytes variable.name ++ node_bytes type_bytes variable.var_type ++ optional_bytes (node_bytes value_bytes) variable.default_value ++ directives_bytes variable.directives

abbrev pub operation_bytes : OperationDefinition → Bytes
operation_bytes operation =
    choice (operation_number operation.ty) ++ list_bytes (node_bytes variable_bytes) operation.variable_definitions ++ directives_bytes operation.directives ++ node_bytes set_bytes operation.selection_set

abbrev pub fragment_bytes : FragmentDefinition → Bytes
fragment_bytes fragment = node_bytes condition_bytes fragment.type_condition ++ directives_bytes fragment.directives ++ node_bytes set_bytes fragment.selection_set

-- ---- documents

-- a definition after its name, over the bytes of either
abbrev pub named_bytes : {N D : Type 0} → (N → Bytes) → (D → Bytes) → N × Positioned D → Bytes
named_bytes name_bytes bytes definition = name_bytes definition.0 ++ node_bytes bytes definition.1

-- a request: its operations, and its fragments
abbrev pub request_bytes : Document → Bytes
request_bytes document =
    list_bytes (named_bytes (optional_bytes text_bytes) operation_bytes) (operations_of document.operations) ++ list_bytes (named_bytes text_bytes fragment_bytes) document.fragments
