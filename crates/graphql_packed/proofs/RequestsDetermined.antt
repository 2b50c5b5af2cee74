-- The bytes of requests determine them, but for the outer places of selections.
use Rattle.std.proofs.Common.{◌≡◌, ℕ, Option, Some, None, List, [], ◌∷◌, ◌++◌, map, refl, ap, ap₂, sym, ◌∙◌}
use Rattle.std.proofs.lemmas.Option.{same_Some}
use Rattle.graphql_parser.specs.trees.Parts.{Name, Arguments, Directives}
use Rattle.graphql_parser.specs.trees.TypeTree.{TypeTree}
use Rattle.graphql_parser.specs.trees.ValueTree.{Tree}
use Rattle.graphql_parser.specs.trees.Request.{Document, Operations, single, multiple, operations_of, OperationDefinition, FragmentDefinition, VariableDefinition, TypeCondition, FragmentSpread, Selection, field, fragment_spread, inline_fragment, SelectionSet, no_selections, selection_and}
use Rattle.graphql_parser.specs.types.OperationType.{OperationType}
use Rattle.graphql_parser.specs.types.OperationType.TheVariants.{Query, Mutation, Subscription}
use Rattle.graphql_parser.specs.types.Pos.{Pos}
use Rattle.graphql_parser.specs.types.Positioned.{Positioned}
use Rattle.graphql_packed.specs.packed.Bytes.{Bytes, number_bytes, choice, text_bytes, place_bytes, node_bytes, word_bytes, optional_bytes, list_bytes}
use Rattle.graphql_packed.specs.packed.OuterPlaces.{node_place, selection_without_outer, set_without_outer, operation_without_outer, fragment_without_outer, named_without_outer, operations_without_outer, without_outer_places}
use Rattle.graphql_packed.specs.packed.Requests.{condition_bytes, spread_bytes, selections_count, selection_bytes, selections_bytes, set_bytes, operation_number, variable_bytes, operation_bytes, fragment_bytes, named_bytes, request_bytes}
use Rattle.graphql_packed.specs.packed.Values.{arguments_bytes, directives_bytes}
use Rattle.graphql_packed.proofs.Determined.{Determines, apart, regrouped, first_by, only_by, both_determine, of_part, made_of, number_determined, choice_determined, text_determined, place_determined, word_determined, node_determined, list_determined, whole_option, whole_list}
use Rattle.graphql_packed.proofs.ValuesDetermined.{value_determined, arguments_determined, directives_determined, type_determined}

-- ---- selections

condition_determined : Determines condition_bytes (λ condition. condition)
condition_determined = made_of {B = TypeCondition} (λ (on : Positioned Name). record { on = on }) (of_part (λ (condition : TypeCondition). condition.on) word_determined)

spread_determined : Determines spread_bytes (λ spread. spread)
spread_determined = made_of {B = FragmentSpread} (λ (x : Positioned Name × Directives). record { fragment_name = x.0; directives = x.1 })
    (both_determine (of_part (λ (spread : FragmentSpread). spread.fragment_name) word_determined) (of_part (λ (spread : FragmentSpread). spread.directives) directives_determined))

-- what a field has before its set
abbrev FieldHead : Type 0
FieldHead = Pos × Option (Positioned Name) × Positioned Name × Arguments × Directives

abbrev field_head_bytes : FieldHead → Bytes
field_head_bytes head = choice 0 ++ place_bytes head.0 ++ optional_bytes word_bytes head.1 ++ word_bytes head.2 ++ arguments_bytes head.3 ++ directives_bytes head.4

field_head_determined : Determines field_head_bytes (λ head. head)
field_head_determined = made_of {B = FieldHead} (λ (x : ((((ℕ × Pos) × Option (Positioned Name)) × Positioned Name) × Arguments) × Directives). (x.0.0.0.0.1, x.0.0.0.1, x.0.0.1, x.0.1, x.1))
    (both_determine (both_determine (both_determine (both_determine (both_determine
    (of_part (λ (head : FieldHead). 0) choice_determined)
    (of_part (λ (head : FieldHead). head.0) place_determined))
    (of_part (λ (head : FieldHead). head.1) (whole_option word_determined)))
    (of_part (λ (head : FieldHead). head.2) word_determined))
    (of_part (λ (head : FieldHead). head.3) arguments_determined))
    (of_part (λ (head : FieldHead). head.4) directives_determined))

-- what an inline fragment has before its set
abbrev InlineHead : Type 0
InlineHead = Pos × Option (Positioned TypeCondition) × Directives

abbrev inline_head_bytes : InlineHead → Bytes
inline_head_bytes head = choice 2 ++ place_bytes head.0 ++ optional_bytes (node_bytes condition_bytes) head.1 ++ directives_bytes head.2

inline_head_determined : Determines inline_head_bytes (λ head. head)
inline_head_determined = made_of {B = InlineHead} (λ (x : ((ℕ × Pos) × Option (Positioned TypeCondition)) × Directives). (x.0.0.1, x.0.1, x.1))
    (both_determine (both_determine (both_determine
    (of_part (λ (head : InlineHead). 2) choice_determined)
    (of_part (λ (head : InlineHead). head.0) place_determined))
    (of_part (λ (head : InlineHead). head.1) (whole_option (node_determined condition_determined))))
    (of_part (λ (head : InlineHead). head.2) directives_determined))

-- what comes before a set, the set's place, and how many selections it has
before_set : {H : Type 0} {bytes : H → Bytes} → Determines bytes (λ head. head) → (h k : H) (p q : Pos) (m n : ℕ) (xs ys r s : Bytes)
    → (bytes h ++ (place_bytes p ++ (number_bytes m ++ xs))) ++ r ≡ (bytes k ++ (place_bytes q ++ (number_bytes n ++ ys))) ++ s → (h ≡ k) × (p ≡ q) × (m ≡ n) × (xs ++ r ≡ ys ++ s)
before_set {bytes = bytes} known h k p q m n xs ys r s e =
    let head = first_by known h k (place_bytes p ++ (number_bytes m ++ xs)) (place_bytes q ++ (number_bytes n ++ ys)) r s e in
    let place = first_by place_determined p q (number_bytes m ++ xs) (number_bytes n ++ ys) r s head.1 in
    let count = first_by number_determined m n xs ys r s place.1 in
    (head.0, place.0, count.0, count.1)

node_place_kept : (selection : Selection) → node_place (selection_without_outer selection) ≡ node_place selection
node_place_kept (field pos alias name arguments directives set_pos set) = refl
node_place_kept (fragment_spread spread) = refl
node_place_kept (inline_fragment pos condition directives set_pos set) = refl

mutual
  selection_same : (a b : Selection) (r s : Bytes) → selection_bytes a ++ r ≡ selection_bytes b ++ s → (selection_without_outer a ≡ selection_without_outer b) × (r ≡ s)
  selection_same (field p a n g d u xs) (field q b m h f v ys) r s e =
      let known = before_set field_head_determined (p, a, n, g, d) (q, b, m, h, f) u v (selections_count xs) (selections_count ys) (selections_bytes xs) (selections_bytes ys) r s e in
      let set = selections_same xs ys r s known.2 known.3 in
      (ap₂ (λ (x : FieldHead × Pos) more. field x.0.0 x.0.1 x.0.2 x.0.3 x.0.4 x.1 more) (ap₂ (λ x y. (x, y)) known.0 known.1) set.0, set.1)
  selection_same (fragment_spread a) (fragment_spread b) r s e =
      let same = (node_determined spread_determined).by a b r s (cc) in
      (ap fragment_spread same.0, same.1)
  selection_same (inline_fragment p c d u xs) (inline_fragment q g f v ys) r s e =
      let known = before_set inline_head_determined (p, c, d) (q, g, f) u v (selections_count xs) (selections_count ys) (selections_bytes xs) (selections_bytes ys) r s e in
      let set = selections_same xs ys r s known.2 known.3 in
      (ap₂ (λ (x : InlineHead × Pos) more. inline_fragment x.0.0 x.0.1 x.0.2 x.1 more) (ap₂ (λ x y. (x, y)) known.0 known.1) set.0, set.1)
  selection_same a b r s e = apart (selection_bytes a ++ r) (selection_bytes b ++ s) refl e

  selections_same : (xs ys : SelectionSet) (r s : Bytes) → selections_count xs ≡ selections_count ys → selections_bytes xs ++ r ≡ selections_bytes ys ++ s → (set_without_outer xs ≡ set_without_outer ys) × (r ≡ s)
  selections_same no_selections no_selections r s n e = (refl, e)
  selections_same (selection_and p x xs) (selection_and q y ys) r s n e =
      let first = selection_same x y (selections_bytes xs ++ r) (selections_bytes ys ++ s) (regrouped (selection_bytes x) (selections_bytes xs) r (selection_bytes y) (selections_bytes ys) s e) in
      let others = selections_same xs ys r s (cc) first.1 in
      let place = sym (node_place_kept x) ∙ ap node_place first.0 ∙ node_place_kept y in
      (ap₂ (λ (z : Pos × Selection) more. selection_and z.0 z.1 more) (ap₂ (λ x y. (x, y)) place first.0) others.0, others.1)
  selections_same _ _ r s n e = absurd cc

set_determined : Determines set_bytes set_without_outer
set_determined = record {
  by = λ a b r s e.
      let count = first_by number_determined (selections_count a) (selections_count b) (selections_bytes a) (selections_bytes b) r s e in
      selections_same a b r s count.0 count.1;
}

-- ---- definitions

kind_same : (a b : OperationType) → operation_number a ≡ operation_number b → a ≡ b
kind_same Query Query e = refl
kind_same Mutation Mutation e = refl
kind_same Subscription Subscription e = refl
kind_same a b e = apart (choice (operation_number a)) (choice (operation_number b)) refl (ap choice e)

kind_determined : Determines (λ kind. choice (operation_number kind)) (λ kind. kind)
kind_determined = record { by = λ a b r s e. let same = choice_determined.by (operation_number a) (operation_number b) r s e in (kind_same a b same.0, same.1) }

variable_determined : Determines variable_bytes (λ variable. variable)
variable_determined = made_of {B = VariableDefinition} (λ (x : ((Positioned Name × Positioned TypeTree) × Option (Positioned Tree)) × Directives). record { name = x.0.0.0; var_type = x.0.0.1; directives = x.1; default_value = x.0.1 })
    (both_determine (both_determine (both_determine
    (of_part (λ (variable : VariableDefinition). variable.name) word_determined)
    (of_part (λ (variable : VariableDefinition). variable.var_type) (node_determined type_determined)))
    (of_part (λ (variable : VariableDefinition). variable.default_value) (whole_option (node_determined value_determined))))
    (of_part (λ (variable : VariableDefinition). variable.directives) directives_determined))

operation_determined : Determines operation_bytes operation_without_outer
operation_determined = made_of {B = OperationDefinition} (λ (x : ((OperationType × List (Positioned VariableDefinition)) × Directives) × Positioned SelectionSet). record { ty = x.0.0.0; variable_definitions = x.0.0.1; directives = x.0.1; selection_set = x.1 })
    (both_determine (both_determine (both_determine
    (of_part (λ (operation : OperationDefinition). operation.ty) kind_determined)
    (of_part (λ (operation : OperationDefinition). operation.variable_definitions) (whole_list (node_determined variable_determined))))
    (of_part (λ (operation : OperationDefinition). operation.directives) directives_determined))
    (of_part (λ (operation : OperationDefinition). operation.selection_set) (node_determined set_determined)))

fragment_determined : Determines fragment_bytes fragment_without_outer
fragment_determined = made_of {B = FragmentDefinition} (λ (x : (Positioned TypeCondition × Directives) × Positioned SelectionSet). record { type_condition = x.0.0; directives = x.0.1; selection_set = x.1 })
    (both_determine (both_determine
    (of_part (λ (fragment : FragmentDefinition). fragment.type_condition) (node_determined condition_determined))
    (of_part (λ (fragment : FragmentDefinition). fragment.directives) directives_determined))
    (of_part (λ (fragment : FragmentDefinition). fragment.selection_set) (node_determined set_determined)))

-- ---- documents

named_determined : {N D : Type 0} {name_bytes : N → Bytes} {bytes : D → Bytes} {f : D → D} → Determines name_bytes (λ name. name) → Determines bytes f → Determines (named_bytes name_bytes bytes) (named_without_outer f)
named_determined {N} {D} name known = both_determine (of_part (λ (definition : N × Positioned D). definition.0) name) (of_part (λ (definition : N × Positioned D). definition.1) (node_determined known))

abbrev optional_name : {D : Type 0} → Name × Positioned D → Option Name × Positioned D
optional_name definition = (Some definition.0, definition.1)

abbrev optional_none : {D : Type 0} → Positioned D → Option Name × Positioned D
optional_none definition = (None, definition)

-- the operations without outer places, as a list
list_without_outer : (operations : List (Name × Positioned OperationDefinition))
    → map (named_without_outer operation_without_outer) (map optional_name operations) ≡ map optional_name (map (named_without_outer operation_without_outer) operations)
list_without_outer [] = refl
list_without_outer (operation ∷ operations) = ap (λ others. optional_name (named_without_outer operation_without_outer operation) ∷ others) (list_without_outer operations)

operations_listed : (operations : Operations) → map (named_without_outer operation_without_outer) (operations_of operations) ≡ operations_of (operations_without_outer operations)
operations_listed (single operation) = refl
operations_listed (multiple operations) = list_without_outer operations

-- operations are determined by their list
names_same : {D : Type 0} (xs ys : List (Name × Positioned D)) → map optional_name xs ≡ map optional_name ys → xs ≡ ys
names_same [] [] e = refl
names_same (x ∷ xs) (y ∷ ys) e =
    let first : optional_name x ≡ optional_name y = cc in
    let name = same_Some x.0 y.0 (ap (λ definition. definition.0) first) in
    ap₂ (λ z zs. z ∷ zs) (ap₂ (λ n d. (n, d)) name (ap (λ definition. definition.1) first)) (names_same xs ys (cc))
names_same _ _ e = absurd cc

unnamed : {D P : Type 0} (a : Positioned D) (b : Name × Positioned D) → optional_none a ≡ optional_name b → P
unnamed a b e = let none : None ≡ Some b.0 = ap (λ definition. definition.0) e in absurd cc

operations_same : (a b : Operations) → operations_of a ≡ operations_of b → a ≡ b
operations_same (single a) (single b) e =
    let first : optional_none a ≡ optional_none b = cc in
    ap single (ap (λ definition. definition.1) first)
operations_same (multiple xs) (multiple ys) e = ap multiple (names_same xs ys e)
operations_same (single a) (multiple []) e = absurd cc
operations_same (single a) (multiple (y ∷ ys)) e = unnamed a y (cc)
operations_same (multiple []) (single b) e = absurd cc
operations_same (multiple (x ∷ xs)) (single b) e = unnamed b x (cc)

operations_determined : Determines (λ operations. list_bytes (named_bytes (optional_bytes text_bytes) operation_bytes) (operations_of operations)) operations_without_outer
operations_determined = record {
  by = λ a b r s e.
      let same = (list_determined (named_determined (whole_option text_determined) operation_determined)).by (operations_of a) (operations_of b) r s e in
      (operations_same (operations_without_outer a) (operations_without_outer b) (sym (operations_listed a) ∙ same.0 ∙ operations_listed b), same.1);
}

pub request_determined : Determines request_bytes without_outer_places
request_determined = made_of {B = Document} (λ (x : Operations × List (Name × Positioned FragmentDefinition)). record { operations = x.0; fragments = x.1 })
    (both_determine (of_part (λ (document : Document). document.operations) operations_determined)
    (of_part (λ (document : Document). document.fragments) (list_determined (named_determined text_determined fragment_determined))))

-- no other request
pub only_request : (whole : Bytes) (a b : Document) (more : Bytes) → whole ≡ request_bytes a → whole ≡ request_bytes b ++ more → (without_outer_places b ≡ without_outer_places a) × (more ≡ [])
only_request = only_by request_determined
