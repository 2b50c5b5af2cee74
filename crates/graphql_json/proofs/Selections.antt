-- The JSON of selections, by the parts that the types of a request have.
use Rattle.std.proofs.Common.{◌≡◌, List, [], ◌∷◌, refl, ap, sym, ◌∙◌, option_map, length, ◌==◌, false, codes, subst, arith}
use Rattle.std.specs.Vec.{vec_len}
use Rattle.std.proofs.lemmas.List.{length-map}
use Rattle.graphql_parser.specs.trees.Parts.{placed}
use Rattle.graphql_parser.specs.trees.PartViews.{arguments_tree, directives_tree}
use Rattle.graphql_parser.specs.trees.Request as request
use Rattle.graphql_parser.specs.trees.RequestViews.{selection_step, field_step, inline_fragment_step, selection_set_step, field_tree, inline_fragment_tree, selection_tree, selection_set_tree, selection_trees, type_condition_tree}
use Rattle.graphql_parser.specs.types.Pos.{Pos}
use Rattle.graphql_parser.specs.types.Positioned.{Positioned}
use Rattle.graphql_trees.specs.declared.executable.Field.{Field, out-Field, fold_out-Field}
use Rattle.graphql_trees.specs.declared.executable.InlineFragment.{InlineFragment, out-InlineFragment, fold_out-InlineFragment}
use Rattle.graphql_trees.specs.declared.executable.SelectionSet.{SelectionSet, out-SelectionSet, fold_out-SelectionSet}
use Rattle.graphql_json.specs.declared.place.Place.{Place}
use Rattle.graphql_json.specs.nodes.Requests.{selection_json, selections_json, set_node, some_of}
use Rattle.graphql_json.specs.nodes.Nodes.{at}
use Rattle.graphql_json.specs.inner.Written.{member_tokens, optional_tokens}

-- a node with the tree of its parts has the JSON of the node with its tree
pub json_of_parts : {A B : Type 0} (place : Place) (selection : Positioned B → request.Selection) (parts tree : A → B) → ((node : A) → parts node ≡ tree node) → (p : Positioned A)
    → selection_json place (selection (placed parts p)) ≡ selection_json place (selection (placed tree p))
json_of_parts place selection parts tree same p = ap (λ node. selection_json place (selection (record { pos = p.pos; node = node }))) (same p.node)

abbrev pub field_parts : Field → request.Field
field_parts f =
    let parts = out-Field f in
    record {
      alias = parts.alias;
      name = parts.name;
      arguments = arguments_tree parts.arguments.items;
      directives = directives_tree parts.directives.items;
      selection_set = placed selection_set_tree parts.selection_set;
    }

pub field_of_parts : (f : Field) → field_parts f ≡ field_tree f
field_of_parts f = sym (fold_out-Field request.Selection request.Field request.InlineFragment request.SelectionSet selection_step field_step inline_fragment_step selection_set_step f)

abbrev pub inline_parts : InlineFragment → request.InlineFragment
inline_parts f =
    let parts = out-InlineFragment f in
    record {
      type_condition = option_map (placed type_condition_tree) parts.type_condition;
      directives = directives_tree parts.directives.items;
      selection_set = placed selection_set_tree parts.selection_set;
    }

pub inline_of_parts : (f : InlineFragment) → inline_parts f ≡ inline_fragment_tree f
inline_of_parts f = sym (fold_out-InlineFragment request.Selection request.Field request.InlineFragment request.SelectionSet selection_step field_step inline_fragment_step selection_set_step f)

pub tree_of_set : (s : SelectionSet) → request.set_of (selection_trees (out-SelectionSet s).items.items) ≡ selection_set_tree s
tree_of_set s = sym (fold_out-SelectionSet request.Selection request.Field request.InlineFragment request.SelectionSet selection_step field_step inline_fragment_step selection_set_step s)

-- ---- sets that are not empty

some_listed : (place at_set : Place) (xs : List (Positioned request.Selection)) → (length xs == 0) ≡ false
    → member_tokens (codes "selectionSet") (set_node at_set (selections_json place (request.set_of xs)))
    ≡ optional_tokens (codes "selectionSet") (set_node at_set) (some_of (selections_json place (request.set_of xs)))
some_listed place at_set [] e = cc
some_listed place at_set (x ∷ xs) e = refl

pub some_set : (place : Place) (pos : Pos) (s : SelectionSet) → (vec_len (out-SelectionSet s).items == 0) ≡ false
    → member_tokens (codes "selectionSet") (set_node (at place pos) (selections_json place (selection_set_tree s)))
    ≡ optional_tokens (codes "selectionSet") (set_node (at place pos)) (some_of (selections_json place (selection_set_tree s)))
some_set place pos s e =
    let items = (out-SelectionSet s).items in
    let counted : length items.items ≡ vec_len items = omega (arith, items.ok.0) in
    let listed : length (selection_trees items.items) == 0 ≡ false = ap (λ n. n == 0) (length-map items.items (placed selection_tree) ∙ counted) ∙ e in
    subst (λ (set : request.SelectionSet). member_tokens (codes "selectionSet") (set_node (at place pos) (selections_json place set))
    ≡ optional_tokens (codes "selectionSet") (set_node (at place pos)) (some_of (selections_json place set)))
    (tree_of_set s) (some_listed place (at place pos) (selection_trees items.items) listed)
