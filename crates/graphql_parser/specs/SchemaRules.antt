-- What is kept of the roots of a schema, and of the definitions of a schema file, while they are checked.
use Rattle.std.specs.Prelude.{Bool, is_some, Option, None, option_map, List, [], ◌∷◌}
use Rattle.graphql_parser.specs.declared.check.schemas.rules.Root as code_root
use Rattle.graphql_parser.specs.declared.check.schemas.rules.Roots as code_roots
use Rattle.graphql_grammar.specs.answers.Breaches.{or_else}
use Rattle.graphql_grammar.specs.declared.error.Error.{Error}
use Rattle.graphql_schemas.specs.grammar.Rules.{first_of_kind, first_repeated, breach_of}
use Rattle.graphql_schemas.specs.grammar.Schema.{Root}
use Rattle.graphql_schemas.specs.grammar.SchemaFile.{Definition}
use Rattle.graphql_syntax.specs.declared.types.OperationType.{OperationType}
use Rattle.graphql_syntax.specs.declared.types.OperationType.TheVariants.{Query, Mutation, Subscription}

-- a root without its name
abbrev pub head_of : Root → code_root.Root
head_of root = record { kind = root.kind; pos = root.pos }

-- whether one of these roots has this kind
abbrev pub has_kind : OperationType → List Root → Bool
has_kind kind roots = is_some (first_of_kind kind roots)

-- which kinds these roots have, and the first whose kind one before it has
abbrev pub roots_of : List Root → code_roots.Roots
roots_of roots = record {
  query = has_kind Query roots;
  mutation = has_kind Mutation roots;
  subscription = has_kind Subscription roots;
  repeated = option_map head_of (first_repeated [] roots);
}

-- the first rule that one of these definitions breaks
abbrev pub first_breach : List Definition → Option Error
first_breach [] = None
first_breach (d ∷ ds) = or_else (breach_of [] d) (first_breach ds)
