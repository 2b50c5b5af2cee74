-- What is shown of a request is shown of it without places, too.
use Rattle.std.proofs.Common.{◌≡◌, Bool, true, false, ◌&&◌, if◌then◌else◌, Option, Some, None, List, [], ◌∷◌, ◌++◌, map, option_map, codes, refl, ap, ap₂}
use Rattle.std.specs.List.{flat_map}
use Rattle.std.specs.Prelude.{is_none}
use Prim.Native.String.{String as Word}
use Rattle.graphql_tokens.specs.declared.pos.Positioned.{Positioned}
use Rattle.graphql_tokens.specs.tokens.Token.{Bare}
use Rattle.graphql_syntax.specs.trees.Parts.{Name, Arguments, Directive, Directives}
use Rattle.graphql_syntax.specs.calls.Words.{operation_word}
use Rattle.graphql_syntax.specs.trees.ValueTree.{Tree}
use Rattle.graphql_trees.specs.trees.Request.{VariableDefinition, Selection, field, fragment_spread, inline_fragment, SelectionSet, no_selections, selection_and, OperationDefinition}
use Rattle.graphql_grammar.specs.grammar.Placeless.{unplaced, bare_node, placeless_argument, placeless_directive, placeless_directives}
use Rattle.graphql_requests.specs.grammar.Placeless.{placeless_variable, placeless_condition, placeless_selection, placeless_set, placeless_operation, placeless_definition}
use Rattle.graphql_requests.specs.grammar.Request.{Definition, operation, fragment}
use Rattle.graphql_printer.specs.inner.Shown.{sign, word, shown_node, shown_part, shown_between, shown_argument, shown_arguments, shown_directive, shown_directives, shown_default, shown_type}
use Rattle.graphql_printer.specs.inner.ShownRequests.{shown_variable, shown_alias, shown_condition, shown_selection, shown_selections, shown_set, braced, is_query, has_none, is_short, shown_name, shown_full, shown_definition}

-- ---- lists and parts that may be missing

pub joined : {a b c d : List Bare} → a ≡ b → c ≡ d → a ++ c ≡ b ++ d
joined e f = ap₂ (λ (x y : List Bare). x ++ y) e f

pub flat-same : {A : Type 0} (f : A → A) (shown : A → List Bare) → ((a : A) → shown (f a) ≡ shown a) → (list : List A) → flat_map shown (map f list) ≡ flat_map shown list
flat-same f shown e [] = refl
flat-same f shown e (a ∷ list) = joined (e a) (flat-same f shown e list)

pub between-same : {A : Type 0} (opening closing : Word) (f : A → A) (shown : A → List Bare) → ((a : A) → shown (f a) ≡ shown a) → (list : List A) → shown_between opening closing shown (map f list) ≡ shown_between opening closing shown list
between-same opening closing f shown e [] = refl
between-same opening closing f shown e (a ∷ list) = ap (λ (l : List Bare). sign opening ∷ (l ++ sign closing ∷ [])) (flat-same f shown e (a ∷ list))

pub part-same : {A : Type 0} (f : A → A) (shown : A → List Bare) → ((a : A) → shown (f a) ≡ shown a) → (part : Option A) → shown_part shown (option_map f part) ≡ shown_part shown part
part-same f shown e None = refl
part-same f shown e (Some a) = e a

-- ---- arguments, directives and default values

arguments-same : (list : Arguments) → shown_arguments (map placeless_argument list) ≡ shown_arguments list
arguments-same list = between-same "(" ")" placeless_argument shown_argument (λ a. refl) list

directive-same : (d : Directive) → shown_directive (placeless_directive d) ≡ shown_directive d
directive-same d = ap (λ (l : List Bare). sign "@" ∷ word d.name.node ∷ l) (arguments-same d.arguments)

pub directives-same : (list : Directives) → shown_directives (placeless_directives list) ≡ shown_directives list
directives-same list = flat-same (unplaced placeless_directive) (shown_node shown_directive) (λ d. directive-same d.node) list

pub default-same : (value : Option (Positioned Tree)) → shown_part shown_default (option_map bare_node value) ≡ shown_part shown_default value
default-same value = part-same bare_node shown_default (λ v. refl) value

-- ---- selections

braced-same : (set : SelectionSet) → shown_selections (placeless_set set) ≡ shown_selections set → braced (placeless_set set) (shown_selections (placeless_set set)) ≡ braced set (shown_selections set)
braced-same no_selections e = refl
braced-same (selection_and pos selection more) e = ap (λ (l : List Bare). sign "{" ∷ (l ++ sign "}" ∷ [])) e

mutual
  selection-same : (s : Selection) → shown_selection (placeless_selection s) ≡ shown_selection s
  selection-same (field pos alias name arguments directives set_pos set) =
      joined (part-same bare_node shown_alias (λ a. refl) alias)
      (ap (λ (l : List Bare). word name.node ∷ l) (joined (arguments-same arguments) (joined (directives-same directives) (braced-same set (selections-same set)))))
  selection-same (fragment_spread spread) = ap (λ (l : List Bare). sign "..." ∷ word spread.node.fragment_name.node ∷ l) (directives-same spread.node.directives)
  selection-same (inline_fragment pos condition directives set_pos set) =
      ap (λ (l : List Bare). sign "..." ∷ l)
      (joined (part-same (unplaced placeless_condition) (shown_node shown_condition) (λ c. refl) condition) (joined (directives-same directives) (braced-same set (selections-same set))))

  selections-same : (set : SelectionSet) → shown_selections (placeless_set set) ≡ shown_selections set
  selections-same no_selections = refl
  selections-same (selection_and pos selection more) = joined (selection-same selection) (selections-same more)

set-same : (set : SelectionSet) → shown_set (placeless_set set) ≡ shown_set set
set-same set = braced-same set (selections-same set)

-- ---- definitions

variable-same : (v : VariableDefinition) → shown_variable (placeless_variable v) ≡ shown_variable v
variable-same v =
    ap (λ (l : List Bare). sign "$" ∷ word v.name.node ∷ sign ":" ∷ (shown_type v.var_type.node ++ l)) (joined (default-same v.default_value) (directives-same v.directives))

none-same : {A : Type 0} (f : A → A) (list : List A) → has_none (map f list) ≡ has_none list
none-same f [] = refl
none-same f (a ∷ list) = refl

short-same : (name : Option Name) (o : OperationDefinition) → is_short name (placeless_operation o) ≡ is_short name o
short-same name o =
    ap₂ (λ (variables directives : Bool). is_query o.ty && is_none name && variables && directives) (none-same (unplaced placeless_variable) o.variable_definitions) (none-same (unplaced placeless_directive) o.directives)

full-same : (name : Option Name) (o : OperationDefinition) → shown_full name (placeless_operation o) ≡ shown_full name o
full-same name o =
    ap (λ (l : List Bare). word (operation_word o.ty) ∷ (shown_part shown_name name ++ l))
    (joined (between-same "(" ")" (unplaced placeless_variable) (shown_node shown_variable) (λ v. variable-same v.node) o.variable_definitions) (joined (directives-same o.directives) (set-same o.selection_set.node)))

either : (a b : Bool) (short short' full full' : List Bare) → a ≡ b → short ≡ short' → full ≡ full' → (if a then short else full) ≡ (if b then short' else full')
either true true short short' full full' e f g = f
either false false short short' full full' e f g = g
either true false short short' full full' e f g = absurd cc
either false true short short' full full' e f g = absurd cc

pub definition-same : (d : Definition) → shown_definition (placeless_definition d) ≡ shown_definition d
definition-same (operation name o) =
    either (is_short name (placeless_operation o.node)) (is_short name o.node) (shown_set (placeless_set o.node.selection_set.node)) (shown_set o.node.selection_set.node) (shown_full name (placeless_operation o.node)) (shown_full name o.node)
    (short-same name o.node) (set-same o.node.selection_set.node) (full-same name o.node)
definition-same (fragment name f) =
    ap (λ (l : List Bare). word (codes "fragment") ∷ word name ∷ (shown_condition f.node.type_condition.node ++ l)) (joined (directives-same f.node.directives) (set-same f.node.selection_set.node))
