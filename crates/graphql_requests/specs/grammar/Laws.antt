-- What holds of each accepted request, whatever its text (GraphQL October 2021, sections 5.2.1.1, 5.2.2.1, 5.5.1.1
-- and 5.6.3).
use Rattle.std.specs.Prelude.{◌≡◌, ◌≢◌, None, List, [], ◌∷◌, ◌++◌}
use Rattle.std.specs.List.{AllByRecursion}
use Rattle.std.specs.Map.{lookup}
use Rattle.std.specs.Str.{bytes_eq}
use Rattle.graphql_tokens.specs.declared.pos.Positioned.{Positioned}
use Rattle.graphql_syntax.specs.trees.Parts.{Name}
use Rattle.graphql_trees.specs.trees.Request.{VariableDefinition, Selection, SelectionSet, field, fragment_spread, inline_fragment, no_selections, selection_and, OperationDefinition, FragmentDefinition, Operations, single, multiple, Document}
use Rattle.graphql_grammar.specs.grammar.Distinct.{IsDistinctDefault, AreDistinctArguments, AreDistinctDirectives}

-- no entry has the name of one that stands before it
abbrev pub HasDistinctNames : {A : Type 0} → List (Name × A) → Type 0
HasDistinctNames {A} entries = (before : List (Name × A)) (e : Name × A) (after : List (Name × A)) → entries ≡ before ++ e ∷ after → lookup (bytes_eq e.0) before ≡ None

-- one operation without a name, or one or more whose names are distinct
abbrev pub AreDistinct : Operations → Type 0
AreDistinct (single operation) = Unit {0}
AreDistinct (multiple operations) = (operations ≢ []) × HasDistinctNames operations

-- ---- what stands in a request holds no object with two fields of one name

abbrev pub IsDistinctVariable : Positioned VariableDefinition → Type 0
IsDistinctVariable v = IsDistinctDefault v.node.default_value × AreDistinctDirectives v.node.directives

abbrev mutual
  pub IsDistinctSelection : Selection → Type 0
  IsDistinctSelection (field pos alias name arguments directives set_pos set) = AreDistinctArguments arguments × AreDistinctDirectives directives × IsDistinctSet set
  IsDistinctSelection (fragment_spread spread) = AreDistinctDirectives spread.node.directives
  IsDistinctSelection (inline_fragment pos condition directives set_pos set) = AreDistinctDirectives directives × IsDistinctSet set

  pub IsDistinctSet : SelectionSet → Type 0
  IsDistinctSet no_selections = Unit {0}
  IsDistinctSet (selection_and pos selection more) = IsDistinctSelection selection × IsDistinctSet more

abbrev pub HasDistinctObjects : Positioned OperationDefinition → Type 0
HasDistinctObjects o = AllByRecursion IsDistinctVariable o.node.variable_definitions × AreDistinctDirectives o.node.directives × IsDistinctSet o.node.selection_set.node

abbrev pub FragmentHasDistinctObjects : Positioned FragmentDefinition → Type 0
FragmentHasDistinctObjects f = AreDistinctDirectives f.node.directives × IsDistinctSet f.node.selection_set.node

abbrev pub OperationsHaveDistinctObjects : Operations → Type 0
OperationsHaveDistinctObjects (single operation) = HasDistinctObjects operation
OperationsHaveDistinctObjects (multiple operations) = AllByRecursion (λ e. HasDistinctObjects e.1) operations

-- ---- the law

-- The operations are distinct, and so are the fragments; one name may serve both. No object has two fields of one name.
pub record IsLawful (document : Document) : Type 0 where
  pub operations : AreDistinct document.operations
  pub fragments : HasDistinctNames document.fragments
  pub in_operations : OperationsHaveDistinctObjects document.operations
  pub in_fragments : AllByRecursion (λ e. FragmentHasDistinctObjects e.1) document.fragments
