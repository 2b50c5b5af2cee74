-- In each request that the grammar relates to tokens no object has a name twice.
use Rattle.std.proofs.Common.{ℕ, zero, suc, true, Option, Some, None, List, [], ◌∷◌}
use Rattle.std.specs.List.{AllByRecursion}
use Rattle.graphql_tokens.specs.declared.pos.Positioned.{Positioned}
use Rattle.graphql_tokens.specs.tokens.Edition.{Current}
use Rattle.graphql_tokens.specs.tokens.Token.{Token}
use Rattle.graphql_syntax.specs.trees.Parts.{Name, Directives}
use Rattle.graphql_trees.specs.trees.Request.{VariableDefinition, Selection, set_of, OperationDefinition}
use Rattle.graphql_grammar.specs.answers.Language.{grammar}
use Rattle.graphql_grammar.specs.grammar.Distinct.{IsDistinctValue, IsDistinctDefault, AreDistinctArguments, AreDistinctDirectives}
use Rattle.graphql_grammar.specs.grammar.Operations.{operation_type}
use Rattle.graphql_grammar.specs.grammar.Types.{type_reference}
use Rattle.graphql_grammar.specs.grammar.Values.{Value}
use Rattle.graphql_grammar.proofs.DistinctValues.{keeps-arguments, keeps-directive, keeps-directives, keeps-default, default-distinct}
use Rattle.graphql_reading.specs.grammar.Limits.{Limits}
use Rattle.graphql_reading.specs.grammar.Relations.{Rel, one, opt}
use Rattle.graphql_reading.specs.grammar.Tests.{punct, keyword, any_name}
use Rattle.graphql_reading.proofs.Keeps.{Keeps, Anything, BothOf, OfOption, keeps-any, keeps-never, keeps-more, keeps-mapped, keeps-then, keeps-either, keeps-opt, keeps-plus, keeps-between, keeps-whole, of-given}
use Rattle.graphql_requests.specs.grammar.Documents.{named_operations, fragments, operations_beside}
use Rattle.graphql_requests.specs.grammar.Laws.{IsDistinctVariable, IsDistinctSelection, IsDistinctSet, HasDistinctObjects, FragmentHasDistinctObjects, OperationsHaveDistinctObjects}
use Rattle.graphql_requests.specs.grammar.Request.{Definition, operation, fragment, own_set, a_definition}
use Rattle.graphql_requests.specs.grammar.Requests.{requests}
use Rattle.graphql_requests.specs.grammar.Selections.{Set, set_or_none, aliased, fragment_name, a_type_condition, a_selection, selection_set}
use Rattle.graphql_requests.specs.grammar.Variables.{default_and_directives, a_variable_definition, variable_definitions}

-- ---- variable definitions

abbrev OfBoth : Option Value × Directives → Type 0
OfBoth x = IsDistinctDefault x.0 × AreDistinctDirectives x.1

keeps-default_and_directives : (n : ℕ) → Keeps (default_and_directives Current n) OfBoth
keeps-default_and_directives n =
    keeps-either (keeps-more {P = BothOf (OfOption IsDistinctValue) AreDistinctDirectives} (λ x k. (default-distinct x.0 k.0, k.1)) (keeps-then (keeps-opt (keeps-default n)) (keeps-directives true n)))
    (keeps-mapped {P = BothOf AreDistinctDirectives IsDistinctValue} (λ x k. (k.1, k.0)) (keeps-then (keeps-plus (keeps-directive true n)) (keeps-default n)))

keeps-variable : (n m : ℕ) → Keeps (a_variable_definition Current n m) IsDistinctVariable
keeps-variable n m =
    keeps-mapped {P = BothOf Anything (BothOf Anything (BothOf Anything (BothOf Anything OfBoth)))} (λ x k. k.1.1.1.1)
    (keeps-then (keeps-any {p = one (punct "$")}) (keeps-then (keeps-any {p = one any_name}) (keeps-then (keeps-any {p = one (punct ":")}) (keeps-then (keeps-any {p = type_reference m}) (keeps-default_and_directives n)))))

abbrev OfVariables : List (Positioned VariableDefinition) → Type 0
OfVariables vs = AllByRecursion IsDistinctVariable vs

keeps-variables : (n m : ℕ) → Keeps (variable_definitions Current n m) OfVariables
keeps-variables n m = keeps-between (punct "(") (punct ")") (keeps-plus (keeps-variable n m))

-- ---- selections

abbrev OfSet : Set → Type 0
OfSet set = IsDistinctSet set.node

abbrev OfSelection : Positioned Selection → Type 0
OfSelection selection = IsDistinctSelection selection.node

set-distinct : (o : Option Set) → OfOption OfSet o → IsDistinctSet (set_or_none o).node
set-distinct None h = tt
set-distinct (Some set) h = h

items-distinct : (xs : List (Positioned Selection)) → AllByRecursion OfSelection xs → IsDistinctSet (set_of xs)
items-distinct [] h = tt
items-distinct (x ∷ xs) h = (h.0, items-distinct xs h.1)

keeps-selection : (n : ℕ) {set : Rel Set} → Keeps set OfSet → Keeps (a_selection Current n set) OfSelection
keeps-selection n h =
    keeps-either
    (keeps-mapped {P = BothOf Anything (BothOf (OfOption AreDistinctArguments) (BothOf AreDistinctDirectives (OfOption OfSet)))} (λ x k. (of-given AreDistinctArguments tt x.1.0 k.1.0, k.1.1.0, set-distinct x.1.1.1 k.1.1.1))
    (keeps-then (keeps-any {p = aliased}) (keeps-then (keeps-opt (keeps-arguments true n)) (keeps-then (keeps-directives true n) (keeps-opt h)))))
    (keeps-either
    (keeps-mapped {P = BothOf Anything (BothOf Anything AreDistinctDirectives)} (λ x k. k.1.1) (keeps-then (keeps-any {p = one (punct "...")}) (keeps-then (keeps-any {p = one fragment_name}) (keeps-directives true n))))
    (keeps-mapped {P = BothOf Anything (BothOf Anything (BothOf AreDistinctDirectives OfSet))} (λ x k. (k.1.1.0, k.1.1.1))
    (keeps-then (keeps-any {p = one (punct "...")}) (keeps-then (keeps-any {p = opt a_type_condition}) (keeps-then (keeps-directives true n) h)))))

keeps-set : (n s : ℕ) → Keeps (selection_set Current n s) OfSet
keeps-set n zero =
    keeps-mapped {P = BothOf Anything (BothOf (AllByRecursion OfSelection) Anything)} (λ x k. items-distinct x.1.0 k.1.0)
    (keeps-then (keeps-any {p = one (punct "{")}) (keeps-then (keeps-plus (keeps-selection n (keeps-never {P = OfSet}))) (keeps-any {p = one (punct "}")})))
keeps-set n (suc s) =
    keeps-mapped {P = BothOf Anything (BothOf (AllByRecursion OfSelection) Anything)} (λ x k. items-distinct x.1.0 k.1.0)
    (keeps-then (keeps-any {p = one (punct "{")}) (keeps-then (keeps-plus (keeps-selection n (keeps-set n s))) (keeps-any {p = one (punct "}")})))

-- ---- definitions

abbrev pub OfDefinition : Definition → Type 0
OfDefinition (operation name o) = HasDistinctObjects o
OfDefinition (fragment name f) = FragmentHasDistinctObjects f

keeps-own_set : (c : Limits) → Keeps (own_set Current c) OfSet
keeps-own_set c = keeps-set c.values c.selections

keeps-definition : (c : Limits) → Keeps (a_definition Current c) OfDefinition
keeps-definition c =
    keeps-either (keeps-mapped {P = OfSet} (λ set k. (tt, tt, k)) (keeps-own_set c))
    (keeps-either
    (keeps-mapped {P = BothOf Anything (BothOf Anything (BothOf (OfOption OfVariables) (BothOf AreDistinctDirectives OfSet)))} (λ x k. (of-given OfVariables tt x.1.1.0 k.1.1.0, k.1.1.1.0, k.1.1.1.1))
    (keeps-then (keeps-any {p = operation_type}) (keeps-then (keeps-any {p = opt (one any_name)}) (keeps-then (keeps-opt (keeps-variables c.values c.types)) (keeps-then (keeps-directives true c.values) (keeps-own_set c))))))
    (keeps-mapped {P = BothOf Anything (BothOf Anything (BothOf Anything (BothOf AreDistinctDirectives OfSet)))} (λ x k. (k.1.1.1.0, k.1.1.1.1))
    (keeps-then (keeps-any {p = one (keyword "fragment")}) (keeps-then (keeps-any {p = one fragment_name}) (keeps-then (keeps-any {p = a_type_condition}) (keeps-then (keeps-directives true c.values) (keeps-own_set c)))))))

pub all-distinct : (c : Limits) (ts : List Token) (ds : List Definition) → grammar requests Current c ts ds → AllByRecursion OfDefinition ds
all-distinct c = (keeps-whole (λ c. keeps-plus (keeps-definition c)) c).by

-- ---- documents

pub in-operations : (ds : List Definition) → AllByRecursion OfDefinition ds → AllByRecursion (λ e. HasDistinctObjects e.1) (named_operations ds)
in-operations [] h = tt
in-operations (operation None o ∷ ds) h = in-operations ds h.1
in-operations (operation (Some name) o ∷ ds) h = (h.0, in-operations ds h.1)
in-operations (fragment name f ∷ ds) h = in-operations ds h.1

pub in-fragments : (ds : List Definition) → AllByRecursion OfDefinition ds → AllByRecursion (λ e. FragmentHasDistinctObjects e.1) (fragments ds)
in-fragments [] h = tt
in-fragments (operation name o ∷ ds) h = in-fragments ds h.1
in-fragments (fragment name f ∷ ds) h = (h.0, in-fragments ds h.1)

pub in-beside : (named : List (Name × Positioned OperationDefinition)) (ds : List Definition) → AllByRecursion (λ e. HasDistinctObjects e.1) named → AllByRecursion OfDefinition ds → OperationsHaveDistinctObjects (operations_beside named ds)
in-beside named [] k h = k
in-beside named (operation None o ∷ ds) k h = h.0
in-beside named (operation (Some name) o ∷ ds) k h = in-beside named ds k h.1
in-beside named (fragment name f ∷ ds) k h = in-beside named ds k h.1
