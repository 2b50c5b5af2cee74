-- What the rules make of each definition: its place in the document, or the rule that it breaks.
use Rattle.std.specs.Prelude.{◌≡◌, true, is_some, Option, Some, None, Result, Ok, Err, List, [], ◌∷◌, ◌++◌}
use Rattle.graphql_tokens.specs.declared.pos.Pos.{Pos}
use Rattle.graphql_tokens.specs.declared.pos.Positioned.{Positioned}
use Rattle.graphql_syntax.specs.declared.types.OperationType.TheVariants.{Query, Mutation, Subscription}
use Rattle.graphql_trees.specs.declared.service.SchemaDefinition.{SchemaDefinition}
use Rattle.graphql_trees.specs.declared.service.TypeSystemDefinition.{TypeSystemDefinition}
use Rattle.graphql_syntax.specs.trees.Parts.{Name, placed}
use Rattle.graphql_trees.specs.trees.SchemaViews as views
use Rattle.graphql_grammar.specs.declared.error.Error.{Error}
use Rattle.graphql_grammar.specs.declared.error.Error.TheVariants.{MultipleRoots}
use Rattle.graphql_grammar.specs.reading.DocumentOf.{TellsOf}
use Rattle.graphql_schemas.specs.declared.rules.Roots as code
use Rattle.graphql_schemas.specs.grammar.Documents.{root_name, schema_tree_of, tree_of}
use Rattle.graphql_schemas.specs.grammar.Rules.{first_repeated, breach_of}
use Rattle.graphql_schemas.specs.grammar.Schema.{Root, Schema}
use Rattle.graphql_schemas.specs.grammar.SchemaFile as files

-- ---- roots

-- the error of a root that comes again
abbrev pub repeated : Pos → Root → Error
repeated schema root = MultipleRoots root.kind schema root.pos

-- the roots so far, each under its kind
pub record Holds (before : List Root) (roots : code.Roots) : Type 0 where
  pub query : roots.query ≡ root_name Query before
  pub mutation : roots.mutation ≡ root_name Mutation before
  pub subscription : roots.subscription ≡ root_name Subscription before

-- one root of a kind
abbrev pub IsPlaced : Option (Positioned Name) → Root → Pos → Result Unit Error → Option (Positioned Name) → Type 0
IsPlaced old root schema (Ok done) new = (old ≡ None) × (new ≡ Some root.name)
IsPlaced old root schema (Err error) new = (is_some old ≡ true) × (error ≡ repeated schema root)

-- with one root more they are still so, and it repeats no kind; or it does
abbrev pub IsAdded : List Root → Root → Pos → Result Unit Error → code.Roots → Type 0
IsAdded before root schema (Ok done) new = ((rest : List Root) → first_repeated before (root ∷ rest) ≡ first_repeated (before ++ root ∷ []) rest) × Holds (before ++ root ∷ []) new
IsAdded before root schema (Err error) new = ((rest : List Root) → first_repeated before (root ∷ rest) ≡ Some root) × (error ≡ repeated schema root)

-- all roots, or the first that repeats a kind
abbrev pub AreSorted : List Root → Pos → Result code.Roots Error → Type 0
AreSorted roots schema (Ok sorted) = (first_repeated [] roots ≡ None) × Holds roots sorted
AreSorted roots schema (Err error) = (root : Root) × (first_repeated [] roots ≡ Some root) × (error ≡ repeated schema root)

-- ---- definitions

abbrev pub breach_of_schema : Positioned Schema → Option Error
breach_of_schema s = breach_of [] (files.schema s)

abbrev pub IsFinishedSchema : Positioned Schema → Result (Positioned SchemaDefinition) Error → Type 0
IsFinishedSchema s (Ok definition) = (breach_of_schema s ≡ None) × (placed views.schema_definition_tree definition ≡ placed schema_tree_of s)
IsFinishedSchema s (Err error) = TellsOf (breach_of_schema s) error

abbrev pub IsFinished : files.Definition → Result TypeSystemDefinition Error → Type 0
IsFinished d (Ok definition) = (breach_of [] d ≡ None) × (views.definition_tree definition ≡ tree_of d)
IsFinished d (Err error) = TellsOf (breach_of [] d) error
