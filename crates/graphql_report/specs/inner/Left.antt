-- What is left to be read of a document, as phrases of its grammar.
-- Source: this project's choice.
use Rattle.std.specs.Prelude.{◌≡◌, ℕ, zero, suc, Bool, true, false, cond, List, [], ◌∷◌, ◌++◌, reverse}
use Rattle.graphql_tokens.specs.tokens.Cuts.{IsCutInto}
use Rattle.graphql_tokens.specs.tokens.Token.{Bare, Token}
use Rattle.graphql_tokens.specs.declared.lexer.TokenKind.TheVariants.{End as AtEnd}
use Rattle.graphql_reading.specs.grammar.Fronts.{Verdict}
use Rattle.graphql_reading.specs.grammar.Limits.{Limits}
use Rattle.graphql_reading.specs.grammar.Tests.{punct, keyword, any_name, any_number, any_string, any_block, the_end}
use Rattle.graphql_reading.specs.reading.Outcome.{Read, Refused, Reader, ◌>>=◌, one_at, then_at, mapped_at, after_at, choose_at, deep_at, opt_at, many_at, whole_at}
use Rattle.graphql_grammar.specs.grammar.Values.{Value as ValueTree, dollar}
use Rattle.graphql_grammar.specs.reading.Arguments.{argument_at, maybe_arguments_at, directives_at, maybe_default_at}
use Rattle.graphql_grammar.specs.reading.Operations.{operation_type_at}
use Rattle.graphql_grammar.specs.reading.Types.{type_at}
use Rattle.graphql_grammar.specs.reading.Values.{number_at, string_at, block_at, variable_at, simple_at, value_first, list_at, object_at, field_at, value_at}
use Rattle.graphql_requests.specs.grammar.Request.{Definition as RequestTree}
use Rattle.graphql_requests.specs.grammar.Selections.{fragment_name}
use Rattle.graphql_requests.specs.reading.Request as request
use Rattle.graphql_requests.specs.reading.Selections.{type_condition_at, selection_first, selection_set_at, AfterDots, a_name, an_inline}
use Rattle.graphql_requests.specs.reading.SelectionSteps.{deeper_at, rest_at as inline_rest_at, item_at}
use Rattle.graphql_requests.specs.reading.Variables.{default_and_directives_at, variable_definition_at, variable_definitions_at}
use Rattle.graphql_schemas.specs.declared.types.Word.{Word}
use Rattle.graphql_schemas.specs.declared.types.Word.TheVariants as kinds
use Rattle.graphql_schemas.specs.grammar.Members.{enum_name}
use Rattle.graphql_schemas.specs.reading.Bodies.{rest_at}
use Rattle.graphql_schemas.specs.reading.Descriptions.{description_at, maybe_description_at}
use Rattle.graphql_schemas.specs.reading.Directives.{location_at, directive_rest_at}
use Rattle.graphql_schemas.specs.reading.Fields.{field_definition_at, fields_at}
use Rattle.graphql_schemas.specs.reading.InputValues.{member_first, input_value_at, arguments_definition_at, input_fields_at}
use Rattle.graphql_schemas.specs.reading.Members.{name_at, implements_at, members_at, enum_value_first, enum_value_at, enum_values_at}
use Rattle.graphql_schemas.specs.reading.Schema.{root_first, root_at, roots_at, extended_schema_at}
use Rattle.graphql_schemas.specs.reading.SchemaFile as schema
use Rattle.graphql_schemas.specs.reading.Types.{some_parts_at, body_at}
use Rattle.graphql_parser.specs.Checked.{ended}
use Rattle.graphql_report.specs.declared.fronts.Language.{Language}
use Rattle.graphql_report.specs.declared.fronts.Language.TheVariants.{Requests, Schemas}
use Rattle.graphql_report.specs.declared.phrases.Keyword.{Keyword}
use Rattle.graphql_report.specs.declared.phrases.Keyword.TheVariants as words
use Rattle.graphql_report.specs.declared.phrases.Mark.{Mark}
use Rattle.graphql_report.specs.declared.phrases.Mark.TheVariants as marks
use Rattle.graphql_report.specs.declared.phrases.Phrase.{Phrase}
use Rattle.graphql_report.specs.declared.phrases.Phrase.TheVariants as phrases
use Prim.Native.String.{String}

-- the token in sight without its place, if there is one
abbrev pub in_sight : List Token → List Bare
in_sight [] = []
in_sight (t ∷ ts) = t.bare ∷ []

-- ---- tokens

abbrev pub mark_text : Mark → String
mark_text marks.Bang = "!"
mark_text marks.And = "&"
mark_text marks.OpenParen = "("
mark_text marks.CloseParen = ")"
mark_text marks.Dots = "..."
mark_text marks.Colon = ":"
mark_text marks.Equals = "="
mark_text marks.At = "@"
mark_text marks.OpenBracket = "["
mark_text marks.CloseBracket = "]"
mark_text marks.OpenBrace = "{"
mark_text marks.Bar = "|"
mark_text marks.CloseBrace = "}"

abbrev pub keyword_text : Keyword → String
keyword_text words.Directive = "directive"
keyword_text words.Enum = "enum"
keyword_text words.Extend = "extend"
keyword_text words.Fragment = "fragment"
keyword_text words.Implements = "implements"
keyword_text words.Input = "input"
keyword_text words.Interface = "interface"
keyword_text words.On = "on"
keyword_text words.Repeatable = "repeatable"
keyword_text words.Scalar = "scalar"
keyword_text words.Schema = "schema"
keyword_text words.Type = "type"
keyword_text words.Union = "union"

-- the keyword of a type, or the last of these, and its kind
abbrev pub word_by : Bare → Keyword × Word
word_by b =
    cond (keyword "scalar" b) (words.Scalar, kinds.Scalar)
    (cond (keyword "type" b) (words.Type, kinds.Type)
    (cond (keyword "interface" b) (words.Interface, kinds.Interface)
    (cond (keyword "union" b) (words.Union, kinds.Union)
    (cond (keyword "enum" b) (words.Enum, kinds.Enum) (words.Input, kinds.Input)))))

-- a number, a string or a block string
abbrev pub literal_at : Reader ValueTree
literal_at = choose_at any_number number_at (choose_at any_string string_at block_at)

-- ---- parts of readers

-- a value that is neither a list, an object nor a name
abbrev pub unnamed_at : Bool → Reader ValueTree
unnamed_at variables = choose_at any_number number_at (choose_at any_string string_at (choose_at any_block block_at (variable_at variables)))

-- a list or an object
abbrev pub bracketed_at : Bool → ℕ → Reader ValueTree
bracketed_at variables zero = choose_at (punct "[") (deep_at (punct "[")) (deep_at (punct "{"))
bracketed_at variables (suc levels) = choose_at (punct "[") (list_at variables (value_at variables levels)) (object_at (value_at variables levels))

-- what stands after `...`
abbrev pub after_dots_at : ℕ → ℕ → Reader AfterDots
after_dots_at values levels = choose_at fragment_name (mapped_at a_name (then_at (one_at fragment_name) (directives_at true values))) (mapped_at an_inline (inline_rest_at values levels))

-- a definition of a request that begins with a keyword
abbrev pub worded_at : Limits → Reader RequestTree
worded_at limits = choose_at (keyword "fragment") (request.fragment_at limits) (request.full_operation_at limits)

-- what stands after `extend`
abbrev pub extended_at : Limits → Reader schema.Extended
extended_at limits = choose_at (keyword "schema") (mapped_at schema.a_schema (extended_schema_at limits)) (mapped_at schema.a_type (body_at true limits))

-- a definition of no schema, without its description
abbrev pub no_schema_at : Limits → Reader schema.Undescribed
no_schema_at limits = choose_at (keyword "directive") (mapped_at schema.of_directive (directive_rest_at limits)) (mapped_at schema.of_type (body_at false limits))

-- ---- phrases

-- how a phrase is read, but for its tree
abbrev pub phrase_at : Limits → Phrase → Reader (Unit {0})
phrase_at limits (phrases.Mark mark) ts = ended (one_at (punct (mark_text mark)) ts)
phrase_at limits (phrases.Keyword word) ts = ended (one_at (keyword (keyword_text word)) ts)
phrase_at limits phrases.Name ts = ended (one_at any_name ts)
phrase_at limits phrases.FragmentName ts = ended (one_at fragment_name ts)
phrase_at limits phrases.EnumName ts = ended (one_at enum_name ts)
phrase_at limits phrases.Location ts = ended (location_at ts)
phrase_at limits phrases.Text ts = ended (description_at ts)
phrase_at limits phrases.OperationType ts = ended (operation_type_at ts)
phrase_at limits (phrases.Dollar variables) ts = ended (one_at (dollar variables) ts)
phrase_at limits phrases.Literal ts = ended (literal_at ts)
phrase_at limits phrases.End ts = ended (one_at the_end ts)
phrase_at limits phrases.TooDeep ts = deep_at (λ _. true) ts
phrase_at limits phrases.Never ts = ended (one_at (λ _. false) ts)
phrase_at limits (phrases.MaybeMark mark) ts = ended (opt_at (punct (mark_text mark)) (one_at (punct (mark_text mark))) ts)
phrase_at limits phrases.MaybeRepeatable ts = ended (opt_at (keyword "repeatable") (one_at (keyword "repeatable")) ts)
phrase_at limits phrases.MaybeName ts = ended (opt_at any_name (one_at any_name) ts)
phrase_at limits (phrases.Value variables levels) ts = ended (value_at variables levels ts)
phrase_at limits (phrases.OwnValue variables) ts = ended (value_at variables limits.values ts)
phrase_at limits (phrases.Simple variables) ts = ended (simple_at variables ts)
phrase_at limits (phrases.Unnamed variables) ts = ended (unnamed_at variables ts)
phrase_at limits (phrases.Bracketed variables levels) ts = ended (bracketed_at variables levels ts)
phrase_at limits (phrases.Values variables levels) ts = ended (many_at (value_first variables) (value_at variables levels) ts)
phrase_at limits (phrases.ObjectFields variables levels) ts = ended (many_at any_name (field_at (value_at variables levels)) ts)
phrase_at limits (phrases.Arguments variables) ts = ended (many_at any_name (argument_at variables limits.values) ts)
phrase_at limits (phrases.MaybeArguments variables) ts = ended (maybe_arguments_at variables limits.values ts)
phrase_at limits (phrases.Directives variables) ts = ended (directives_at variables limits.values ts)
phrase_at limits phrases.MaybeDefault ts = ended (maybe_default_at limits.values ts)
phrase_at limits (phrases.Type levels) ts = ended (type_at levels ts)
phrase_at limits phrases.OwnType ts = ended (type_at limits.types ts)
phrase_at limits phrases.MaybeVariables ts = ended (opt_at (punct "(") (variable_definitions_at limits.values limits.types) ts)
phrase_at limits phrases.VariableDefinition ts = ended (variable_definition_at limits.values limits.types ts)
phrase_at limits phrases.VariableDefinitions ts = ended (many_at (punct "$") (variable_definition_at limits.values limits.types) ts)
phrase_at limits phrases.AfterType ts = ended (default_and_directives_at limits.values ts)
phrase_at limits (phrases.Set levels) ts = ended (selection_set_at limits.values levels ts)
phrase_at limits phrases.OwnSet ts = ended (selection_set_at limits.values limits.selections ts)
phrase_at limits (phrases.Selections levels) ts = ended (many_at selection_first (item_at limits.values levels) ts)
phrase_at limits (phrases.Selection levels) ts = ended (item_at limits.values levels ts)
phrase_at limits phrases.MaybeAliased ts = ended (opt_at (punct ":") (mapped_at (λ x. x.1) (then_at (one_at (punct ":")) (one_at any_name))) ts)
phrase_at limits (phrases.MaybeSet levels) ts = ended (opt_at (punct "{") (deeper_at limits.values levels) ts)
phrase_at limits (phrases.AfterDots levels) ts = ended (after_dots_at limits.values levels ts)
phrase_at limits (phrases.Inline levels) ts = ended (inline_rest_at limits.values levels ts)
phrase_at limits phrases.MaybeCondition ts = ended (opt_at (keyword "on") type_condition_at ts)
phrase_at limits phrases.RequestDefinition ts = ended (request.definition_at limits ts)
phrase_at limits phrases.WordedDefinition ts = ended (worded_at limits ts)
phrase_at limits phrases.RequestDefinitions ts = ended (many_at request.definition_first (request.definition_at limits) ts)
phrase_at limits phrases.SchemaDefinition ts = ended (schema.definition_at limits ts)
phrase_at limits phrases.SchemaDefinitions ts = ended (many_at schema.definition_first (schema.definition_at limits) ts)
phrase_at limits phrases.Extended ts = ended (extended_at limits ts)
phrase_at limits phrases.RootParts ts = ended (some_parts_at true limits (punct "{") roots_at ts)
phrase_at limits phrases.Undescribed ts = ended (schema.undescribed_at limits ts)
phrase_at limits phrases.NoSchema ts = ended (no_schema_at limits ts)
phrase_at limits (phrases.TypeBody extend) ts = ended (body_at extend limits ts)
phrase_at limits (phrases.Rest extend word) ts = ended (rest_at extend limits word ts)
phrase_at limits phrases.MaybeImplements ts = ended (opt_at (keyword "implements") implements_at ts)
phrase_at limits (phrases.Names mark) ts = ended (many_at (punct (mark_text mark)) (after_at (punct (mark_text mark)) name_at) ts)
phrase_at limits phrases.MaybeFields ts = ended (opt_at (punct "{") (fields_at limits) ts)
phrase_at limits phrases.FieldDefinition ts = ended (field_definition_at limits ts)
phrase_at limits phrases.FieldDefinitions ts = ended (many_at member_first (field_definition_at limits) ts)
phrase_at limits phrases.MaybeMembers ts = ended (opt_at (punct "=") members_at ts)
phrase_at limits phrases.MaybeEnumValues ts = ended (opt_at (punct "{") (enum_values_at limits) ts)
phrase_at limits phrases.EnumValueDefinition ts = ended (enum_value_at limits ts)
phrase_at limits phrases.EnumValueDefinitions ts = ended (many_at enum_value_first (enum_value_at limits) ts)
phrase_at limits phrases.MaybeInputFields ts = ended (opt_at (punct "{") (input_fields_at limits) ts)
phrase_at limits phrases.InputValueDefinition ts = ended (input_value_at limits ts)
phrase_at limits phrases.InputValueDefinitions ts = ended (many_at member_first (input_value_at limits) ts)
phrase_at limits phrases.MaybeArgumentsDefinition ts = ended (opt_at (punct "(") (arguments_definition_at limits) ts)
phrase_at limits phrases.MaybeRoots ts = ended (opt_at (punct "{") roots_at ts)
phrase_at limits phrases.Root ts = ended (root_at ts)
phrase_at limits phrases.Roots ts = ended (many_at root_first root_at ts)
phrase_at limits phrases.MaybeDescription ts = ended (maybe_description_at ts)
phrase_at limits phrases.Locations ts = ended (many_at (punct "|") (after_at (punct "|") location_at) ts)

-- one after the other
abbrev pub phrases_at : Limits → List Phrase → Reader (Unit {0})
phrases_at limits [] ts = Read tt ts
phrases_at limits (p ∷ ps) ts = phrase_at limits p ts >>= λ _ rest. phrases_at limits ps rest

-- ---- steps: what is left stands in a list with the next phrase last

-- the one list is read as the other where this token is in sight
abbrev pub Becomes : Limits → Bare → List Phrase → List Phrase → Type 0
Becomes limits b old new = (ts : List Token) → in_sight ts ≡ b ∷ [] → phrases_at limits (reverse old) ts ≡ phrases_at limits (reverse new) ts

-- whether the phrase is this token
abbrev pub TellsToken : Limits → Phrase → Bare → Bool → Type 0
TellsToken limits p b true = (t : Token) (ts : List Token) → t.bare ≡ b → phrase_at limits p (t ∷ ts) ≡ Read tt ts
TellsToken limits p b false = (t : Token) (ts : List Token) → t.bare ≡ b → (v : Verdict) × (phrase_at limits p (t ∷ ts) ≡ Refused v (t ∷ ts))

-- whether what is left goes on with this token, and what is left then
abbrev pub Steps : Limits → Bare → List Phrase → List Phrase → Bool → Type 0
Steps limits b old new true = (t : Token) (ts : List Token) → t.bare ≡ b → phrases_at limits (reverse old) (t ∷ ts) ≡ phrases_at limits (reverse new) ts
Steps limits b old new false = (t : Token) (ts : List Token) → t.bare ≡ b → (v : Verdict) × (phrases_at limits (reverse old) (t ∷ ts) ≡ Refused v (t ∷ ts))

-- ---- documents

abbrev pub whole_of : Language → Limits → Reader (Unit {0})
whole_of Requests limits ts = ended (whole_at (request.definitions_at limits) ts)
whole_of Schemas limits ts = ended (whole_at (schema.definitions_at limits) ts)

-- this is left after the tokens before the end of a text
pub record IsLeftOf (language : Language) (limits : Limits) (text : List ℕ) (left : List Phrase) : Type 0 where
  pub tokens : List Token
  pub last : Token
  pub cut : IsCutInto text (tokens ++ last ∷ [])
  pub ends : last.bare.kind ≡ AtEnd
  pub same : (others : List Token) → whole_of language limits (tokens ++ others) ≡ phrases_at limits (reverse left) others
