-- What an error says, and the places that it names.
-- Source: this project's choice, with the texts and places of the Rust crate.
use Rattle.std.specs.Prelude.{◌≡◌, ℕ, List, [], ◌∷◌, ◌++◌, Option, Some, None, option_map, codes, string_bytes}
use Rattle.std.specs.Fmt.{decimal}
use Rattle.graphql_tokens.specs.declared.pos.Pos.{Pos}
use Rattle.graphql_syntax.specs.calls.Words.{operation_word}
use Rattle.graphql_reading.specs.grammar.Places.{nowhere}
use Rattle.graphql_grammar.specs.declared.error.Error.{Error}
use Rattle.graphql_grammar.specs.declared.error.Error.TheVariants.{Syntax, MultipleRoots, MissingQueryRoot, MultipleOperations, OperationDuplicated, FragmentDuplicated, MissingOperation, RecursionLimitExceeded, OutOfMemory}

-- the message that a parser gives a syntax error: `syntax error at L:C`
abbrev pub syntax_message : Pos → List ℕ
syntax_message place = codes "syntax error at " ++ (decimal place.line ++ codes ":" ++ decimal place.column)

-- the text of an error
abbrev pub error_text : Error → List ℕ
error_text (Syntax message start end) = string_bytes message
error_text (MultipleRoots root schema pos) = codes "multiple " ++ operation_word root ++ codes " roots in schema definition"
error_text (MissingQueryRoot pos) = codes "schema definition is missing query root"
error_text (MultipleOperations anonymous operation) = codes "document contains multiple operations"
error_text (OperationDuplicated operation first second) = codes "operation " ++ operation ++ codes " is defined twice"
error_text (FragmentDuplicated fragment first second) = codes "fragment " ++ fragment ++ codes " is defined twice"
error_text MissingOperation = codes "document does not contain an operation"
error_text RecursionLimitExceeded = codes "recursion limit exceeded."
error_text OutOfMemory = codes "out of memory"

abbrev pub list_of_option : Option Pos → List Pos
list_of_option None = []
list_of_option (Some place) = place ∷ []

-- the places of an error, the most important first
abbrev pub error_places : Error → List Pos
error_places (Syntax message start end) = start ∷ list_of_option end
error_places (MultipleRoots root schema pos) = pos ∷ schema ∷ []
error_places (MissingQueryRoot pos) = pos ∷ []
error_places (MultipleOperations anonymous operation) = anonymous ∷ operation ∷ []
error_places (OperationDuplicated operation first second) = second ∷ first ∷ []
error_places (FragmentDuplicated fragment first second) = second ∷ first ∷ []
error_places MissingOperation = []
error_places RecursionLimitExceeded = []
error_places OutOfMemory = []

-- the error with each place made 0:0
abbrev pub placeless_error : Error → Error
placeless_error (Syntax message start end) = Syntax message nowhere (option_map (λ place. nowhere) end)
placeless_error (MultipleRoots root schema pos) = MultipleRoots root nowhere nowhere
placeless_error (MissingQueryRoot pos) = MissingQueryRoot nowhere
placeless_error (MultipleOperations anonymous operation) = MultipleOperations nowhere nowhere
placeless_error (OperationDuplicated operation first second) = OperationDuplicated operation nowhere nowhere
placeless_error (FragmentDuplicated fragment first second) = FragmentDuplicated fragment nowhere nowhere
placeless_error MissingOperation = MissingOperation
placeless_error RecursionLimitExceeded = RecursionLimitExceeded
placeless_error OutOfMemory = OutOfMemory

-- the errors are equal: the same case, with the same names, kinds and places, and messages of the same text
abbrev pub AreEqualErrors : Error → Error → Type 0
AreEqualErrors (Syntax message start end) (Syntax other begin stop) = (string_bytes message ≡ string_bytes other) × (start ≡ begin) × (end ≡ stop)
AreEqualErrors error other = error ≡ other
