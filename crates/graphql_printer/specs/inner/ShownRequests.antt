-- What is printed of requests, as bare tokens.
-- Source: GraphQL October 2021, sections 2.2 to 2.8 (Document to Fragments) and 2.10 (Variables). That a query without a name,
-- variables and directives is printed as its set alone is this project's choice.
use Rattle.std.specs.Borrow.{Bor}
use Rattle.std.specs.Prelude.{ℕ, Bool, true, false, ◌&&◌, if◌then◌else◌, is_none, Option, option_map, List, [], ◌∷◌, ◌++◌, codes, flat_map, map}
use Rattle.graphql_tokens.specs.declared.pos.Pos.{Pos}
use Rattle.graphql_tokens.specs.declared.pos.Positioned.{Positioned}
use Rattle.graphql_tokens.specs.tokens.Token.{Bare}
use Rattle.graphql_syntax.specs.calls.Words.{operation_word}
use Rattle.graphql_syntax.specs.declared.types.OperationType.{OperationType}
use Rattle.graphql_syntax.specs.declared.types.OperationType.TheVariants.{Query, Mutation, Subscription}
use Rattle.graphql_syntax.specs.trees.Parts.{Name}
use Rattle.graphql_trees.specs.trees.Request.{VariableDefinition, TypeCondition, FragmentSpread, Selection, field, fragment_spread, inline_fragment, SelectionSet, no_selections, selection_and, OperationDefinition, FragmentDefinition, operations_of, Document}
use Rattle.graphql_requests.specs.grammar.Request.{Definition, operation, fragment}
use Rattle.graphql_printer.specs.inner.Places.{stands_before}
use Rattle.graphql_printer.specs.inner.Shown.{sign, word, shown_node, shown_part, shown_between, shown_type, shown_arguments, shown_directives, shown_default}

-- ---- variables

abbrev pub shown_variable : VariableDefinition → List Bare
shown_variable variable =
    sign "$" ∷ word variable.name.node ∷ sign ":" ∷ (shown_type variable.var_type.node ++ (shown_part shown_default variable.default_value ++ shown_directives variable.directives))

abbrev pub shown_variables : List (Positioned VariableDefinition) → List Bare
shown_variables variables = shown_between "(" ")" (shown_node shown_variable) variables

-- ---- selections

abbrev pub shown_alias : Positioned Name → List Bare
shown_alias alias = word alias.node ∷ sign ":" ∷ []

abbrev pub shown_condition : TypeCondition → List Bare
shown_condition condition = word (codes "on") ∷ word condition.on.node ∷ []

abbrev pub shown_spread : FragmentSpread → List Bare
shown_spread spread = sign "..." ∷ word spread.fragment_name.node ∷ shown_directives spread.directives

-- what is shown of the selections of a set, in its braces; nothing where it has none
abbrev pub braced : SelectionSet → List Bare → List Bare
braced no_selections inner = []
braced (selection_and pos selection more) inner = sign "{" ∷ (inner ++ sign "}" ∷ [])

abbrev mutual
  pub shown_selection : Selection → List Bare
  shown_selection (field pos alias name arguments directives set_pos set) =
      shown_part shown_alias alias ++ (word name.node ∷ (shown_arguments arguments ++ (shown_directives directives ++ braced set (shown_selections set))))
  shown_selection (fragment_spread spread) = shown_spread spread.node
  shown_selection (inline_fragment pos condition directives set_pos set) =
      sign "..." ∷ (shown_part (shown_node shown_condition) condition ++ (shown_directives directives ++ braced set (shown_selections set)))

  pub shown_selections : SelectionSet → List Bare
  shown_selections no_selections = []
  shown_selections (selection_and pos selection more) = shown_selection selection ++ shown_selections more

abbrev pub shown_set : SelectionSet → List Bare
shown_set set = braced set (shown_selections set)

-- ---- definitions

abbrev pub is_query : OperationType → Bool
is_query Query = true
is_query Mutation = false
is_query Subscription = false

abbrev pub has_none : {A : Type 0} → List A → Bool
has_none [] = true
has_none (a ∷ others) = false

-- it is shown as its set alone
abbrev pub is_short : Option Name → OperationDefinition → Bool
is_short name definition = is_query definition.ty && is_none name && has_none definition.variable_definitions && has_none definition.directives

abbrev pub shown_name : Name → List Bare
shown_name name = word name ∷ []

-- the whole form
abbrev pub shown_full : Option Name → OperationDefinition → List Bare
shown_full name definition =
    word (operation_word definition.ty) ∷ (shown_part shown_name name ++ (shown_variables definition.variable_definitions ++ (shown_directives definition.directives ++ shown_set definition.selection_set.node)))

abbrev pub shown_operation : Option Name → OperationDefinition → List Bare
shown_operation name definition = if is_short name definition then shown_set definition.selection_set.node else shown_full name definition

abbrev pub shown_fragment : Name → FragmentDefinition → List Bare
shown_fragment name definition =
    word (codes "fragment") ∷ word name ∷ (shown_condition definition.type_condition.node ++ (shown_directives definition.directives ++ shown_set definition.selection_set.node))

abbrev pub shown_definition : Definition → List Bare
shown_definition (operation name o) = shown_operation name o.node
shown_definition (fragment name f) = shown_fragment name f.node

-- ---- documents

abbrev pub Operation : Type 0
Operation = Option Name × Positioned OperationDefinition

abbrev pub Fragment : Type 0
Fragment = Name × Positioned FragmentDefinition

abbrev pub an_operation : Operation → Definition
an_operation o = operation o.0 o.1

abbrev pub a_fragment : Fragment → Definition
a_fragment f = fragment f.0 f.1

-- A definition at this place, after the fragments that are left and whose places are smaller; then the others, of the
-- fragments that are left then.
abbrev pub after_fragments : Pos → Definition → (List Fragment → List Definition) → List Fragment → List Definition
after_fragments pos definition others [] = definition ∷ others []
after_fragments pos definition others (first ∷ left) =
    if stands_before first.1.pos pos then a_fragment first ∷ after_fragments pos definition others left
    else definition ∷ others (first ∷ left)

-- The operations in their order and the fragments in theirs: the next operation before the next fragment, unless the
-- fragment's place is smaller.
abbrev pub arranged : List Operation → List Fragment → List Definition
arranged [] left = map a_fragment left
arranged (o ∷ others) left = after_fragments o.1.pos (an_operation o) (arranged others) left

abbrev pub definitions_in : Document → List Definition
definitions_in document = arranged (operations_of document.operations) document.fragments

abbrev pub shown_request : Document → List Bare
shown_request document = flat_map shown_definition (definitions_in document)

-- a name that is lent, where there is one
abbrev pub lent_name : Option (Bor (List ℕ)) → Option (List ℕ)
lent_name name = option_map (λ n. n.now) name
