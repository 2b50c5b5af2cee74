-- The rules that the definitions of a request keep, by what stands before each definition (GraphQL October 2021,
-- sections 5.2.1.1, 5.2.2.1 and 5.5.1.1).
use Rattle.std.specs.Prelude.{Option, Some, None, option_map, cond, List, [], ◌∷◌}
use Rattle.std.specs.Str.{bytes_eq}
use Rattle.graphql_tokens.specs.declared.pos.Pos.{Pos}
use Rattle.graphql_syntax.specs.trees.Parts.{Name}
use Rattle.graphql_grammar.specs.answers.Breaches.{or_else}
use Rattle.graphql_grammar.specs.declared.error.Error.{Error}
use Rattle.graphql_grammar.specs.declared.error.Error.TheVariants.{MultipleOperations, OperationDuplicated, FragmentDuplicated, MissingOperation}
use Rattle.graphql_requests.specs.grammar.Request.{Definition, operation, fragment}

-- ---- the first of its kind, and where it stands

abbrev pub first_operation : List Definition → Option Pos
first_operation [] = None
first_operation (operation name o ∷ ds) = Some o.pos
first_operation (fragment name f ∷ ds) = first_operation ds

abbrev pub first_anonymous : List Definition → Option Pos
first_anonymous [] = None
first_anonymous (operation None o ∷ ds) = Some o.pos
first_anonymous (operation (Some name) o ∷ ds) = first_anonymous ds
first_anonymous (fragment name f ∷ ds) = first_anonymous ds

abbrev pub first_operation_named : Name → List Definition → Option Pos
first_operation_named name [] = None
first_operation_named name (operation None o ∷ ds) = first_operation_named name ds
first_operation_named name (operation (Some other) o ∷ ds) = cond (bytes_eq name other) (Some o.pos) (first_operation_named name ds)
first_operation_named name (fragment other f ∷ ds) = first_operation_named name ds

abbrev pub first_fragment_named : Name → List Definition → Option Pos
first_fragment_named name [] = None
first_fragment_named name (operation other o ∷ ds) = first_fragment_named name ds
first_fragment_named name (fragment other f ∷ ds) = cond (bytes_eq name other) (Some f.pos) (first_fragment_named name ds)

-- ---- what a definition breaks

-- The error that a definition is after those before it: an operation without a name stands alone, and no two
-- operations have one name, nor two fragments. It has the places of both definitions.
abbrev pub breach_of : List Definition → Definition → Option Error
breach_of before (operation None o) = option_map (λ first. MultipleOperations o.pos first) (first_operation before)
breach_of before (operation (Some name) o) =
    or_else (option_map (λ anonymous. MultipleOperations anonymous o.pos) (first_anonymous before))
    (option_map (λ first. OperationDuplicated name first o.pos) (first_operation_named name before))
breach_of before (fragment name f) = option_map (λ first. FragmentDuplicated name first f.pos) (first_fragment_named name before)

-- a document has an operation (this project's choice, as the Rust crate's)
abbrev pub missing_operation : Option Pos → Option Error
missing_operation None = Some MissingOperation
missing_operation (Some first) = None

abbrev pub lack_of : List Definition → Option Error
lack_of ds = missing_operation (first_operation ds)
