-- What the rules for requests say: which operation has no name, and which fragments are spread.
use Rattle.std.specs.Prelude.{List, Bool, false, ◌||◌, Option, Some, None}
use Rattle.std.specs.List.{list_any}
use Rattle.std.specs.Str.{bytes_eq}
use Rattle.graphql_parser.specs.trees.Parts.{Name}
use Rattle.graphql_parser.specs.trees.Request.{Document, Operations, OperationDefinition, FragmentDefinition, Selection, SelectionSet, field, fragment_spread, inline_fragment, no_selections, selection_and, single, multiple}
use Rattle.graphql_parser.specs.types.Pos.{Pos}
use Rattle.graphql_parser.specs.types.Positioned.{Positioned}

-- the place of an operation without a name
abbrev pub place_without_name : Operations → Option Pos
place_without_name (single o) = Some o.pos
place_without_name (multiple os) = None

-- whether a spread of this name stands in a selection or in a set, at any depth
abbrev mutual
  pub selection_spreads : Name → Selection → Bool
  selection_spreads name (field pos alias field_name arguments directives set_pos set) = spreads name set
  selection_spreads name (fragment_spread s) = bytes_eq s.node.fragment_name.node name
  selection_spreads name (inline_fragment pos condition directives set_pos set) = spreads name set

  pub spreads : Name → SelectionSet → Bool
  spreads name no_selections = false
  spreads name (selection_and pos x xs) = selection_spreads name x || spreads name xs

-- whether one stands in an operation, or in a fragment
abbrev pub operations_spread : Name → Operations → Bool
operations_spread name (single o) = spreads name o.node.selection_set.node
operations_spread name (multiple os) = list_any (λ (o : Name × Positioned OperationDefinition). spreads name o.1.node.selection_set.node) os

abbrev pub fragments_spread : Name → List (Name × Positioned FragmentDefinition) → Bool
fragments_spread name fragments = list_any (λ (f : Name × Positioned FragmentDefinition). spreads name f.1.node.selection_set.node) fragments

abbrev pub document_spreads : Name → Document → Bool
document_spreads name d = operations_spread name d.operations || fragments_spread name d.fragments
