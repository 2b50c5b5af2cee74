-- Definitions that keep the rules, sorted by what they are.
use Rattle.std.specs.Prelude.{◌≡◌, true, is_some, Option, Some, None, option_map, Result, Ok, Err, List, [], ◌∷◌, ◌++◌, map}
use Rattle.graphql_tokens.specs.declared.pos.Pos.{Pos}
use Rattle.graphql_tokens.specs.declared.pos.Positioned.{Positioned}
use Rattle.graphql_syntax.specs.trees.Parts.{Name, placed}
use Rattle.graphql_trees.specs.trees.Request as request
use Rattle.graphql_trees.specs.trees.RequestViews.{operation_tree, fragment_tree, entry_tree}
use Rattle.graphql_grammar.specs.declared.error.Error.{Error}
use Rattle.graphql_requests.specs.declared.rules.Sorted.{Sorted}
use Rattle.graphql_requests.specs.grammar.Documents.{named_operations, fragments}
use Rattle.graphql_requests.specs.grammar.Request.{Definition, operation, fragment}
use Rattle.graphql_requests.specs.declared.definitions.Definition.{Definition as CodeDefinition}
use Rattle.graphql_requests.specs.reading.Definitions.{definition_tree}
use Rattle.graphql_requests.specs.grammar.Requests.{requests}
use Rattle.graphql_requests.specs.grammar.Rules.{breach_of, first_operation}
use Rattle.graphql_grammar.specs.answers.Answers.{AreUnbroken}
use Rattle.graphql_grammar.specs.answers.Breaches.{or_else}
use Rattle.graphql_grammar.specs.reading.DocumentOf.{TellsOf}

abbrev pub definition_trees : List CodeDefinition → List Definition
definition_trees ds = map definition_tree ds

-- the first operation without a name
abbrev pub anonymous_in : List Definition → Option (Positioned request.OperationDefinition)
anonymous_in [] = None
anonymous_in (operation None o ∷ ds) = Some o
anonymous_in (operation (Some name) o ∷ ds) = anonymous_in ds
anonymous_in (fragment name f ∷ ds) = anonymous_in ds

-- where the first of some entries stands
abbrev pub first_place : {A : Type 0} → List (Name × Positioned A) → Option Pos
first_place [] = None
first_place (e ∷ es) = Some e.1.pos

-- these definitions break no rule, and are sorted by what they are
pub record IsSorted (ds : List Definition) (s : Sorted) : Type 0 where
  pub unbroken : AreUnbroken requests ds
  pub first : first_operation ds ≡ or_else (option_map (λ o. o.pos) (anonymous_in ds)) (first_place (named_operations ds))
  pub alone : is_some (anonymous_in ds) ≡ true → named_operations ds ≡ []
  pub anonymous : option_map (placed operation_tree) s.anonymous ≡ anonymous_in ds
  pub operations : map (entry_tree operation_tree) s.operations.entries ≡ named_operations ds
  pub fragments : map (entry_tree fragment_tree) s.fragments.entries ≡ fragments ds

-- with one definition more they are sorted still, or it breaks a rule
abbrev pub IsAdded : List Definition → Definition → Result Unit Error → Sorted → Type 0
IsAdded ds d (Ok done) new = IsSorted (ds ++ d ∷ []) new
IsAdded ds d (Err error) new = TellsOf (breach_of ds d) error
