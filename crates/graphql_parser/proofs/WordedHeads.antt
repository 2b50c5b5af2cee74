-- The heads of fragments, and of operations that begin with a keyword.
use Rattle.std.proofs.Common.{◌≡◌, true, Option, Some, List, refl}
use Rattle.graphql_syntax.specs.declared.types.OperationType.{OperationType}
use Rattle.graphql_tokens.specs.tokens.Token.{Token}
use Rattle.graphql_syntax.specs.trees.Parts.{Directives}
use Rattle.graphql_parser.specs.Checked.{rest_of}
use Rattle.graphql_parser.specs.RequestHeads.{operation_head, fragment_head, head_of}
use Rattle.graphql_parser.proofs.Rests.{is-read}
use Rattle.graphql_grammar.specs.reading.Arguments.{directives_at}
use Rattle.graphql_grammar.specs.reading.Operations.{operation_type_at}
use Rattle.graphql_reading.specs.declared.parser.Refusal.{Refusal}
use Rattle.graphql_reading.specs.declared.parser.Refusal.TheVariants.{Memory, Syntax, Limit}
use Rattle.graphql_reading.specs.grammar.Fronts.{Verdict, syntax, limit}
use Rattle.graphql_reading.specs.grammar.Limits.{Limits}
use Rattle.graphql_reading.specs.grammar.Tests.{punct, keyword, any_name}
use Rattle.graphql_reading.specs.reading.Ahead.{Ahead, tokens}
use Rattle.graphql_reading.specs.reading.Given.{Refuses}
use Rattle.graphql_reading.specs.reading.Outcome.{Read, Refused, Reader, one_at, then_at, mapped_at, opt_at}
use Rattle.graphql_requests.specs.grammar.Request.{name_in}
use Rattle.graphql_requests.specs.grammar.Selections.{Set, fragment_name}
use Rattle.graphql_requests.specs.reading.Request.{own_set_at, full_operation_at, fragment_at}
use Rattle.graphql_requests.specs.reading.Selections.{type_condition_at}
use Rattle.graphql_requests.specs.reading.Variables.{variable_definitions_at}

abbrev pub body_at : Limits → Reader (Directives × Set)
body_at limits = then_at (directives_at true limits.values) (own_set_at limits)

-- ---- fragments

pub fragment-is : (limits : Limits) (a b c d rest : List Token) (word name : Token) → one_at (keyword "fragment") a ≡ Read word b → one_at fragment_name b ≡ Read name c → rest_of (type_condition_at c) ≡ Some d → rest_of (body_at limits d) ≡ Some rest → mapped_at head_of (fragment_at limits) a ≡ Read (fragment_head name.bare.spelling word.pos) rest
fragment-is limits a b c d rest word name e f g h =
    let condition = is-read (type_condition_at c) d g in
    let body = is-read (body_at limits d) rest h in
    rw (e, f, condition.is, body.is) refl

no-fragment : (limits : Limits) (a b c d rest : List Token) (word name : Token) (v : Verdict) → one_at (keyword "fragment") a ≡ Read word b → one_at fragment_name b ≡ Read name c → rest_of (type_condition_at c) ≡ Some d → body_at limits d ≡ Refused v rest → mapped_at head_of (fragment_at limits) a ≡ Refused v rest
no-fragment limits a b c d rest word name v e f g h =
    let condition = is-read (type_condition_at c) d g in
    rw (e, f, condition.is, h) refl

pub fragment-refuses : (limits : Limits) (b c : List Token) (stop : Refusal) (old now new : Ahead) (word name : Token) → one_at (keyword "fragment") (tokens old) ≡ Read word b → one_at fragment_name b ≡ Read name c → rest_of (type_condition_at c) ≡ Some (tokens now) → Refuses stop now new (body_at limits) → Refuses stop old new (mapped_at head_of (fragment_at limits))
fragment-refuses limits b c Memory old now new word name e f g h = h
fragment-refuses limits b c Syntax old now new word name e f g h = no-fragment limits (tokens old) b c (tokens now) (tokens new) word name syntax e f g h
fragment-refuses limits b c Limit old now new word name e f g h = no-fragment limits (tokens old) b c (tokens now) (tokens new) word name limit e f g h

-- ---- operations

pub operation-is : (limits : Limits) (a b c d rest : List Token) (word : Token × OperationType) (name : Option Token) → operation_type_at a ≡ Read word b → opt_at any_name (one_at any_name) b ≡ Read name c → rest_of (opt_at (punct "(") (variable_definitions_at limits.values limits.types) c) ≡ Some d → rest_of (body_at limits d) ≡ Some rest → mapped_at head_of (full_operation_at limits) a ≡ Read (operation_head (name_in name) word.0.pos) rest
operation-is limits a b c d rest word name e f g h =
    let variables = is-read (opt_at (punct "(") (variable_definitions_at limits.values limits.types) c) d g in
    let body = is-read (body_at limits d) rest h in
    rw (e, f, variables.is, body.is) refl

no-operation : (limits : Limits) (a b c d rest : List Token) (word : Token × OperationType) (name : Option Token) (v : Verdict) → operation_type_at a ≡ Read word b → opt_at any_name (one_at any_name) b ≡ Read name c → rest_of (opt_at (punct "(") (variable_definitions_at limits.values limits.types) c) ≡ Some d → body_at limits d ≡ Refused v rest → mapped_at head_of (full_operation_at limits) a ≡ Refused v rest
no-operation limits a b c d rest word name v e f g h =
    let variables = is-read (opt_at (punct "(") (variable_definitions_at limits.values limits.types) c) d g in
    rw (e, f, variables.is, h) refl

pub operation-refuses : (limits : Limits) (b c : List Token) (stop : Refusal) (old now new : Ahead) (word : Token × OperationType) (name : Option Token) → operation_type_at (tokens old) ≡ Read word b → opt_at any_name (one_at any_name) b ≡ Read name c → rest_of (opt_at (punct "(") (variable_definitions_at limits.values limits.types) c) ≡ Some (tokens now) → Refuses stop now new (body_at limits) → Refuses stop old new (mapped_at head_of (full_operation_at limits))
operation-refuses limits b c Memory old now new word name e f g h = h
operation-refuses limits b c Syntax old now new word name e f g h = no-operation limits (tokens old) b c (tokens now) (tokens new) word name syntax e f g h
operation-refuses limits b c Limit old now new word name e f g h = no-operation limits (tokens old) b c (tokens now) (tokens new) word name limit e f g h
