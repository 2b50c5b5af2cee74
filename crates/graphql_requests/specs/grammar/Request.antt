-- The grammar of requests: operations and fragments, and their places (GraphQL October 2021, sections 2.2, 2.3 and 2.8).
use Rattle.std.specs.Prelude.{true, Option, Some, None, List, []}
use Rattle.graphql_tokens.specs.declared.pos.Positioned.{Positioned}
use Rattle.graphql_syntax.specs.declared.types.OperationType.{OperationType}
use Rattle.graphql_syntax.specs.declared.types.OperationType.TheVariants.{Query}
use Rattle.graphql_tokens.specs.tokens.Edition.{Edition}
use Rattle.graphql_tokens.specs.tokens.Token.{Token}
use Rattle.graphql_syntax.specs.trees.Parts.{Name, Directives}
use Rattle.graphql_trees.specs.trees.Request.{VariableDefinition, TypeCondition, OperationDefinition, FragmentDefinition}
use Rattle.graphql_grammar.specs.grammar.Arguments.{directives}
use Rattle.graphql_reading.specs.grammar.Relations.{given}
use Rattle.graphql_grammar.specs.grammar.Operations.{operation_type}
use Rattle.graphql_requests.specs.grammar.Variables.{variable_definitions}
use Rattle.graphql_reading.specs.grammar.Fronts.{Grammar}
use Rattle.graphql_reading.specs.grammar.Places.{at}
use Rattle.graphql_reading.specs.grammar.Relations.{one, ◌⨾◌, ◌∪◌, mapped, plus, opt}
use Rattle.graphql_requests.specs.grammar.Selections.{Set, fragment_name, a_type_condition, selection_set}
use Rattle.graphql_reading.specs.grammar.Tests.{keyword, any_name}

-- a definition, with the name of its operation where it has one, or of its fragment
pub data Definition : Type 0 where
  operation : Option Name → Positioned OperationDefinition → Definition
  fragment : Name → Positioned FragmentDefinition → Definition

-- the free set of a definition; what nests in it is counted
abbrev pub own_set : Edition → Grammar Set
own_set edition limits = selection_set edition limits.values limits.selections

-- ---- operations

-- The short form is a query without a name, variables and directives, and stands where its set does.
abbrev pub query_of : Set → Definition
query_of set = operation None (record { pos = set.pos; node = record { ty = Query; variable_definitions = []; directives = []; selection_set = set } })

-- OperationDefinition : SelectionSet
abbrev pub a_short_operation : Edition → Grammar Definition
a_short_operation edition limits = mapped query_of (own_set edition limits)

abbrev pub name_in : Option Token → Option Name
name_in None = None
name_in (Some t) = Some t.bare.spelling

abbrev pub operation_of : (Token × OperationType) × (Option Token × (Option (List (Positioned VariableDefinition)) × (Directives × Set))) → Definition
operation_of ((word, ty), (name, (variables, (directives, set)))) = operation (name_in name) (at word (record {
  ty = ty;
  variable_definitions = given variables;
  directives = directives;
  selection_set = set;
}))

-- OperationDefinition : OperationType Name? VariableDefinitions? Directives? SelectionSet
-- It stands at its keyword.
abbrev pub a_full_operation : Edition → Grammar Definition
a_full_operation edition limits =
    mapped operation_of (operation_type ⨾ opt (one any_name) ⨾ opt (variable_definitions edition limits.values limits.types) ⨾ directives edition true limits.values ⨾ own_set edition limits)

-- ---- fragments

abbrev pub fragment_of : Token × (Token × (Positioned TypeCondition × (Directives × Set))) → Definition
fragment_of (word, (name, (condition, (directives, set)))) =
    fragment name.bare.spelling (at word (record { type_condition = condition; directives = directives; selection_set = set }))

-- FragmentDefinition : 'fragment' FragmentName TypeCondition Directives? SelectionSet
-- It stands at its keyword.
abbrev pub a_fragment : Edition → Grammar Definition
a_fragment edition limits =
    mapped fragment_of (one (keyword "fragment") ⨾ one fragment_name ⨾ a_type_condition ⨾ directives edition true limits.values ⨾ own_set edition limits)

-- ---- documents

-- ExecutableDefinition : OperationDefinition | FragmentDefinition
abbrev pub a_definition : Edition → Grammar Definition
a_definition edition limits = a_short_operation edition limits ∪ a_full_operation edition limits ∪ a_fragment edition limits

-- ExecutableDocument : ExecutableDefinition+ End
-- The end of the text is put to the definitions where answers are defined.
abbrev pub definitions : Edition → Grammar (List Definition)
definitions edition limits = plus (a_definition edition limits)
