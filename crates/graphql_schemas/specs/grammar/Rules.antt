-- The rules that the definitions of a schema file keep (GraphQL October 2021, section 3.3.1).
use Rattle.std.specs.Prelude.{Bool, true, false, cond, is_some, Option, Some, None, option_map, List, [], ◌∷◌, ◌++◌}
use Rattle.graphql_tokens.specs.declared.pos.Positioned.{Positioned}
use Rattle.graphql_syntax.specs.declared.types.OperationType.{OperationType}
use Rattle.graphql_syntax.specs.declared.types.OperationType.TheVariants.{Query, Mutation, Subscription}
use Rattle.graphql_grammar.specs.answers.Breaches.{or_else}
use Rattle.graphql_grammar.specs.declared.error.Error.{Error}
use Rattle.graphql_grammar.specs.declared.error.Error.TheVariants.{MultipleRoots, MissingQueryRoot}
use Rattle.graphql_schemas.specs.grammar.Schema.{Root, Schema}
use Rattle.graphql_schemas.specs.grammar.SchemaFile.{Definition, schema, type_def, directive}

abbrev pub same_kind : OperationType → OperationType → Bool
same_kind Query Query = true
same_kind Mutation Mutation = true
same_kind Subscription Subscription = true
same_kind one other = false

-- the first of these roots that has this kind
abbrev pub first_of_kind : OperationType → List Root → Option Root
first_of_kind kind [] = None
first_of_kind kind (root ∷ roots) = cond (same_kind kind root.kind) (Some root) (first_of_kind kind roots)

-- the first root whose kind one of those before it has
abbrev pub first_repeated : List Root → List Root → Option Root
first_repeated before [] = None
first_repeated before (root ∷ roots) = cond (is_some (first_of_kind root.kind before)) (Some root) (first_repeated (before ++ root ∷ []) roots)

-- ---- what a definition breaks

-- no kind comes twice: the error has the places of the keyword that repeats it and of the definition
abbrev pub repeats_a_root : Positioned Schema → Option Error
repeats_a_root s = option_map (λ root. MultipleRoots root.kind s.pos root.pos) (first_repeated [] s.node.roots)

-- a query root there is, but in an extension
abbrev pub missing_query : Positioned Schema → Option Root → Option Error
missing_query s None = cond s.node.extend None (Some (MissingQueryRoot s.pos))
missing_query s (Some root) = None

abbrev pub lacks_a_query : Positioned Schema → Option Error
lacks_a_query s = missing_query s (first_of_kind Query s.node.roots)

-- the error that a definition is, whatever stands before it: a repeated root is told before a missing one
abbrev pub breach_of : List Definition → Definition → Option Error
breach_of before (schema s) = or_else (repeats_a_root s) (lacks_a_query s)
breach_of before (type_def t) = None
breach_of before (directive d) = None
